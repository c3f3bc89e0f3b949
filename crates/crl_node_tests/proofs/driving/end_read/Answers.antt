use Rattle.std.proofs.Common.{arith}
use Rattle.crl_world.specs.Seen.{world_seen}
use Rattle.crl_world.specs.Stepping.{reading_fits, end_of_reading}
use Rattle.crl_node_tests.proofs.Coming.{read_enabled}
use Rattle.crl_node_tests.proofs.Reaching.{end_reached}
use Rattle.crl_node_tests.proofs.driving.end_read.Goals as goal

pub returns-in-Ok : goal.returns-in-Ok
returns-in-Ok g c =
    let w = world_seen g.N.Member.state c.args.world.now in
    end_reached (reading_fits c.args.guard w) c.args.guard (end_of_reading c.args.guard) w _ c.end_read.result c.requires
    (read_enabled c.args.guard w (grind arith) (c.may_end_read.ensures (grind arith))) c.end_read.ensures
