use Rattle.std.proofs.Common.{◌+◌, ◌≤◌}
use Rattle.crl_stages.specs.StagesState.{lifetimes_of}
use Rattle.crl_naming.proofs.Purges.{is_told}
use Rattle.crl_naming.proofs.deleting.post_purges.Given as goal

abbrev pub invariant-loop-to : goal.invariant-loop-to
invariant-loop-to l = record {
  room : l.initial.out.room ≤ l.out.room + l.to;
  posts : is_told l.fn.me l.fn.name l.fn.nodes (lifetimes_of l.stages l.fn.name.serial).asked l.initial.out.list l.to l.out.list;
}
