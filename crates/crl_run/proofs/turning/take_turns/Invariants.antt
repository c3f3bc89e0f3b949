use Rattle.std.proofs.Common.{map}
use Rattle.crl_order.specs.Words.{words_to_come}
use Rattle.crl_world.specs.Seen.{world_seen}
use Rattle.crl_run.specs.Turning.{AfterTurns, SayWhatIsLeft}
use Rattle.crl_run.proofs.turning.take_turns.Given as goal

abbrev pub invariant-loop : goal.invariant-loop
invariant-loop g l = AfterTurns (map (λ b. b.items) l.fn.blocks) (words_to_come l.fn.order) l.counter (world_seen g.N.Member.state l.fn.world) l.fn.players (world_seen g.N.Member.state l.world) l.players l.order
    × SayWhatIsLeft (map (λ b. b.items) l.fn.blocks) l.players l.left.items
