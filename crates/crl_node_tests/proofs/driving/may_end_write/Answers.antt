use Rattle.crl_world.specs.Seen.{world_seen}
use Rattle.crl_node_tests.proofs.Coming.{write_may}
use Rattle.crl_node_tests.proofs.driving.may_end_write.Goals as goal

pub returns : goal.returns
returns g c = λ t. write_may c.args.guard.now c.node.result c.name.result _ (world_seen g.N.Member.state c.args.world.now) c.node.ensures c.name.ensures (c.is_allowed.ensures t)
