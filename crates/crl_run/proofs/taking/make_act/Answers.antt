use Rattle.crl_world.specs.Seen.{world_seen}
use Rattle.crl_run.proofs.Playing.{read_made, write_made}
use Rattle.crl_run.proofs.taking.make_act.Goals as goal

pub returns-in-EndRead : goal.returns-in-EndRead
returns-in-EndRead g c =
    read_made c.args.i (world_seen g.N.Member.state c.args.world.now) (world_seen g.N.Member.state c.end_reading.new.world) c.args.player.now c.args.act c.in-EndRead.guard c.in-EndRead.is c.requires.may.fits c.end_reading.ensures

pub returns-in-EndWrite : goal.returns-in-EndWrite
returns-in-EndWrite g c =
    write_made c.args.i (world_seen g.N.Member.state c.args.world.now) (world_seen g.N.Member.state c.end_writing.new.world) c.args.player.now c.args.act c.in-EndWrite.guard c.in-EndWrite.is c.requires.may.fits c.end_writing.ensures
