use Rattle.crl_world.specs.Seen.{world_seen}
use Rattle.crl_node_tests.specs.Reached.{IsReached}
use Rattle.crl_node_tests.proofs.by_hand.play_by_hand.Given as goal

abbrev pub invariant-loop : goal.invariant-loop
invariant-loop g l = IsReached (world_seen g.N.Member.state l.world)
