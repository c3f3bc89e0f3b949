use Rattle.std.proofs.Common.{[], arith, ap, length}
use Rattle.crl_table.specs.Tables.{table_of}
use Rattle.crl_machine.specs.declared.node_row.NodeRow.{NodeRow}
use Rattle.crl_machine.specs.Seen.{state}
use Rattle.crl_machine.proofs.RowSet.{at_row}
use Rattle.crl_machine.proofs.Rounds.{full_or_not}
use Rattle.crl_machine.proofs.machine.Machine.is_full.Goals as goal

pub returns : goal.returns
unfolding state
returns c =
    let fit = c.args.self.now.rows_fit in
    let d = c.index-row.result.now in
    let told = at_row (λ (d : NodeRow). d.told) 0 _ _ _ d fit c.requires.node c.index-row.ensures in
    let came = ap length (at_row (λ (d : NodeRow). d.came.items) [] _ _ _ d fit c.requires.node c.index-row.ensures) in
    full_or_not c.args.self.now.nodes (table_of c.args.self.now.regions) c.args.self.now.rows.items c.args.node c.args.round c.have_come.result fit (rw c.deref.ensures.value at c.have_come.ensures)
    (omega (arith, told, c.len-came.ensures, c.if-came-eq0.false, c.if-round-came.false, c.if-row-round.false)) (omega (arith, came, c.len-came.ensures, c.if-round-came.false))
