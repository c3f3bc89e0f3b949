use Rattle.crl_home.specs.HomesState.{table_at}
use Rattle.crl_remote.specs.RemotesState.{row_at}
use Rattle.crl_desk.specs.Desks.{state}
use Rattle.crl_sectioning.proofs.Lets.{home_lets, remote_lets}
use Rattle.crl_sectioning.proofs.starting.start.Goals as goal

pub start_at_home-requires-clause-lets : goal.start_at_home-requires-clause-lets
start_at_home-requires-clause-lets c =
    home_lets c.args.write c.args.name (state c.args.desk.now) (table_at c.args.name c.args.desk.now.homes.homes) c.requires.safe c.requires.free c.requires.heard c.note_sections.ensures c.requires.ready.room.parts.below c.in-Home.ensures.1

pub start_elsewhere-requires-clause-lets : goal.start_elsewhere-requires-clause-lets
start_elsewhere-requires-clause-lets c =
    remote_lets c.args.write c.args.name (state c.args.desk.now) (row_at c.args.name c.args.desk.now.remotes) c.requires.safe c.requires.heard c.note_sections.ensures c.in-Elsewhere.ensures.0 c.in-Elsewhere.ensures.1
