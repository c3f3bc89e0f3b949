use Rattle.crl_desk.specs.Desks.{state}
use Rattle.crl_table.specs.Tables.{table_of}
use Rattle.crl_copying.proofs.Grants.{side_has_size, papers_for_copy, grant_law, rows_of_row}
use Rattle.crl_copying.proofs.granting.take_grant.Goals as goal

pub open_granted-requires-clause-papers : goal.open_granted-requires-clause-papers
open_granted-requires-clause-papers c =
    papers_for_copy _ c.args.name c.args.version c.args.granted c.requires.meets.0 (table_of c.args.desk.now.remotes.rows) _ c.args.kit c.requires.ready.papers
    (side_has_size (state c.args.desk.now) c.args.name c.requires.meets.0 c.requires.safe c.requires.meets.1)
    (rows_of_row c.args.name c.args.version c.args.granted c.requires.meets.0 (table_of c.args.desk.now.remotes.rows) _ c.requires.meets.1 c.take_grant.ensures.row.rows)

pub returns-clause-state : goal.returns-clause-state
returns-clause-state c =
    grant_law _ _ c.args.name c.args.version c.args.granted (state c.args.desk.now) c.requires.meets.0 (table_of c.take_grant.new.self.rows) _ _ c.requires.meets.1 c.requires.meets.2
    (rows_of_row c.args.name c.args.version c.args.granted c.requires.meets.0 (table_of c.args.desk.now.remotes.rows) _ c.requires.meets.1 c.take_grant.ensures.row.rows)
    c.gives_write-write.ensures c.open_granted.ensures.state
