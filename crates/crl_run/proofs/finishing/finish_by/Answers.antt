use Rattle.std.proofs.Common.{length, map, subst}
use Rattle.crl_order.specs.Words.{words_to_come}
use Rattle.crl_world.specs.Seen.{world_seen}
use Rattle.crl_run.specs.Words.{words_then}
use Rattle.crl_run.specs.Finishing.{IsPrintedFrom}
use Rattle.crl_run.proofs.Returned.{printed_returned}
use Rattle.crl_run.proofs.finishing.finish_by.Goals as goal

pub returns-in-Ok : goal.returns-in-Ok
returns-in-Ok g c capacity words k at =
    let all = map (λ b. b.items) c.args.blocks.now in
    let rest = words_to_come c.args.order in
    let printed = subst (λ players. IsPrintedFrom all rest (world_seen g.N.Member.state c.args.world) players c.in-Ok.printed) c.as_mut_slice.ensures.value c.in-Ok.ensures in
    printed_returned c.printed_as.result c.in-Ok.printed (length c.args.players.items) capacity all (words_then k words rest) (printed capacity words k at) c.printed_as.ensures
