use Rattle.std.proofs.Common.{length, map}
use Rattle.crl_order.specs.Words.{words_to_come}
use Rattle.crl_world.specs.Seen.{world_seen}
use Rattle.crl_run.proofs.Ending.{begins_there, at_start}
use Rattle.crl_run.proofs.Returned.{run_returned}
use Rattle.crl_run.proofs.running.run.Goals as goal

pub finish_by-requires-clause-begun : goal.finish_by-requires-clause-begun
finish_by-requires-clause-begun g c =
    (c.args.capacity, at_start c.args.nodes c.args.capacity (map (λ b. b.items) c.args.blocks.now) (world_seen g.N.Member.state c.in-Ok.world) c.in-Ok-new_players.players.items c.in-Ok.ensures c.in-Ok-new_players.ensures)

pub returns : goal.returns
returns g c =
    let all = map (λ b. b.items) c.args.blocks.now in
    let words = words_to_come c.args.order in
    run_returned c.finish_by.result (length c.in-Ok-new_players.players.items) c.args.nodes c.args.capacity all words c.in-Ok-new_players.ensures.many
    (c.finish_by.ensures c.args.capacity words 0 (begins_there c.args.nodes c.args.capacity all words (world_seen g.N.Member.state c.in-Ok.world) c.in-Ok-new_players.players.items c.in-Ok.ensures c.in-Ok-new_players.ensures))
