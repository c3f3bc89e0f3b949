use Rattle.crl_world.specs.Seen.{world_seen}
use Rattle.crl_node_tests.proofs.Reaching.{reached_first}
use Rattle.crl_node_tests.proofs.driving.try_world.Goals as goal

pub returns-in-Ok : goal.returns-in-Ok
returns-in-Ok g c = reached_first c.args.nodes c.args.capacity (world_seen g.N.Member.state c.in-Ok.world) c.in-Ok.ensures
