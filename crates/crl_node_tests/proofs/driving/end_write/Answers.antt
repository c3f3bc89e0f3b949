use Rattle.std.proofs.Common.{arith}
use Rattle.crl_world.specs.Seen.{world_seen}
use Rattle.crl_world.specs.Stepping.{writing_fits, end_of_writing}
use Rattle.crl_node_tests.proofs.Coming.{write_enabled}
use Rattle.crl_node_tests.proofs.Reaching.{end_reached}
use Rattle.crl_node_tests.proofs.driving.end_write.Goals as goal

pub returns-in-Ok : goal.returns-in-Ok
returns-in-Ok g c =
    let w = world_seen g.N.Member.state c.args.world.now in
    end_reached (writing_fits c.args.guard w) c.args.guard (end_of_writing c.args.guard) w _ c.end_write.result c.requires
    (write_enabled c.args.guard w (grind arith) (c.may_end_write.ensures (grind arith))) c.end_write.ensures
