use Rattle.std.proofs.Common.{length, map}
use Rattle.crl_protocol.specs.Chosen.{always_first}
use Rattle.crl_world.specs.Seen.{world_seen}
use Rattle.crl_run.specs.Words.{words_then}
use Rattle.crl_run.proofs.AllTurns.{at_words}
use Rattle.crl_run.proofs.Returned.{some_returned}
use Rattle.crl_run.proofs.finishing.finish.Goals as goal

pub returns : goal.returns
returns g c capacity at =
    let all = map (λ b. b.items) c.args.blocks.now in
    let w = world_seen g.N.Member.state c.args.world in
    let there = at_words capacity all w c.args.players.items at in
    some_returned c.finish_by.result (length c.args.players.items) capacity all (words_then there.1 there.0 always_first) (c.finish_by.ensures capacity there.0 there.1 there.2)
