use Rattle.crl_home.specs.HomesState.{table_at}
use Rattle.crl_remote.specs.RemotesState.{row_at}
use Rattle.crl_desk.specs.Desks.{state}
use Rattle.crl_sectioning.proofs.Finds.{finds_versions, finds_reading, finds_reading_here}
use Rattle.crl_sectioning.proofs.reading.end_read.Goals as goal

pub end_read_at_home-requires-clause-reading : goal.end_read_at_home-requires-clause-reading
end_read_at_home-requires-clause-reading c = finds_reading c.args.name (state c.args.desk.now) c.requires.heard

pub end_read_at_home-requires-clause-versions : goal.end_read_at_home-requires-clause-versions
end_read_at_home-requires-clause-versions c = finds_versions c.args.name (state c.args.desk.now) (table_at c.args.name c.args.desk.now.homes.homes) c.requires.safe c.in-Home.ensures.1

pub end_read_elsewhere-requires-clause-reading : goal.end_read_elsewhere-requires-clause-reading
end_read_elsewhere-requires-clause-reading c = finds_reading c.args.name (state c.args.desk.now) c.requires.heard

pub end_read_elsewhere-requires-clause-here : goal.end_read_elsewhere-requires-clause-here
end_read_elsewhere-requires-clause-here c = finds_reading_here c.args.name (state c.args.desk.now) (row_at c.args.name c.args.desk.now.remotes) c.requires.safe c.requires.heard c.in-Elsewhere.ensures.0 c.in-Elsewhere.ensures.1

pub end_read_nowhere-requires-clause-reading : goal.end_read_nowhere-requires-clause-reading
end_read_nowhere-requires-clause-reading c = finds_reading c.args.name (state c.args.desk.now) c.requires.heard
