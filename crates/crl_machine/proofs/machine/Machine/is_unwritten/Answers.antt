use Rattle.std.proofs.Common.{sym}
use Rattle.crl_table.specs.Tables.{table_of}
use Rattle.crl_machine.specs.Seen.{state}
use Rattle.crl_machine.proofs.Sections.{unwritten_or_not}
use Rattle.crl_machine.proofs.machine.Machine.is_unwritten.Goals as goal

pub returns-in-Some : goal.returns-in-Some
unfolding state
returns-in-Some c =
    let found = sym c.in-Some.ensures in
    unwritten_or_not _ (table_of c.args.self.now.regions) c.args.self.now.rows.items c.args.name.now c.in-Some.region.now _ (c.args.self.now.regions_fit _ _ found).writer found c.is_none.ensures
