use Rattle.crl_home.specs.HomesState.{table_at}
use Rattle.crl_remote.specs.RemotesState.{row_at}
use Rattle.crl_desk.specs.Desks.{state}
use Rattle.crl_sectioning.proofs.Finds.{finds_versions, finds_writing, finds_writing_here, finds_home_size, finds_remote_size}
use Rattle.crl_sectioning.proofs.writing.end_write.Goals as goal

pub end_write_at_home-requires-clause-writing : goal.end_write_at_home-requires-clause-writing
end_write_at_home-requires-clause-writing c = finds_writing c.args.name c.args.bytes (state c.args.desk.now) c.requires.heard

pub end_write_at_home-requires-clause-versions : goal.end_write_at_home-requires-clause-versions
end_write_at_home-requires-clause-versions c = finds_versions c.args.name (state c.args.desk.now) (table_at c.args.name c.args.desk.now.homes.homes) c.requires.safe c.in-Home.ensures.1

pub end_write_at_home-requires-clause-fits : goal.end_write_at_home-requires-clause-fits
end_write_at_home-requires-clause-fits c = finds_home_size c.args.name c.args.bytes (state c.args.desk.now) (table_at c.args.name c.args.desk.now.homes.homes) c.requires.safe c.requires.heard c.requires.sized c.in-Home.ensures.1

pub end_write_elsewhere-requires-clause-writing : goal.end_write_elsewhere-requires-clause-writing
end_write_elsewhere-requires-clause-writing c = finds_writing c.args.name c.args.bytes (state c.args.desk.now) c.requires.heard

pub end_write_elsewhere-requires-clause-here : goal.end_write_elsewhere-requires-clause-here
end_write_elsewhere-requires-clause-here c = finds_writing_here c.args.name c.args.bytes (state c.args.desk.now) (row_at c.args.name c.args.desk.now.remotes) c.requires.safe c.requires.heard c.in-Elsewhere.ensures.0 c.in-Elsewhere.ensures.1

pub end_write_elsewhere-requires-clause-fits : goal.end_write_elsewhere-requires-clause-fits
end_write_elsewhere-requires-clause-fits c = finds_remote_size c.args.name c.args.bytes (state c.args.desk.now) (row_at c.args.name c.args.desk.now.remotes) c.requires.safe c.requires.heard c.requires.sized c.in-Elsewhere.ensures.0 c.in-Elsewhere.ensures.1

pub end_write_nowhere-requires-clause-writing : goal.end_write_nowhere-requires-clause-writing
end_write_nowhere-requires-clause-writing c = finds_writing c.args.name c.args.bytes (state c.args.desk.now) c.requires.heard
