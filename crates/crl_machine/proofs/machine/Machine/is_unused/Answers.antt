use Rattle.std.proofs.Common.{sym}
use Rattle.crl_table.specs.Tables.{table_of}
use Rattle.crl_machine.specs.Seen.{state}
use Rattle.crl_machine.proofs.Sections.{unused_or_not, used_by_writer}
use Rattle.crl_machine.proofs.machine.Machine.is_unused.Goals as goal

pub returns-then-is_none : goal.returns-then-is_none
unfolding state
returns-then-is_none c =
    let found = sym c.in-Some.ensures in
    unused_or_not _ (table_of c.args.self.now.regions) c.args.self.now.rows.items c.args.name.now c.in-Some.region.now _ found (c.args.self.now.regions_fit _ _ found).shares c.if-is_none.ensures c.in-Some.region.now.readers_fit

pub returns-else-is_none : goal.returns-else-is_none
unfolding state
returns-else-is_none c =
    let found = sym c.in-Some.ensures in
    rw c.if-is_none.false (used_by_writer _ (table_of c.args.self.now.regions) c.args.self.now.rows.items c.args.name.now c.in-Some.region.now (c.args.self.now.regions_fit _ _ found).writer found c.if-is_none.ensures)
