use Rattle.std.proofs.Common.{◌≡◌, ◌-◌, ◌++◌, map}
use Rattle.crl_protocol.specs.Ends.{blocked_from}
use Rattle.crl_world.specs.Seen.{world_seen}
use Rattle.crl_run.specs.Reporting.{running_seen}
use Rattle.crl_run.proofs.reporting.blocked_nodes.Given as goal

abbrev pub invariant-loop-i : goal.invariant-loop-i
invariant-loop-i g l =
    let r = running_seen (map (λ b. b.items) l.blocks) (world_seen g.N.Member.state l.world) l.players in
    l.list.items ++ blocked_from l.i (r.world.count - l.i) r ≡ blocked_from 0 r.world.count r
