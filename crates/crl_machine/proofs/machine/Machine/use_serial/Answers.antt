use Rattle.std.proofs.Common.{◌∙◌, [], arith, ap, min, ◌+◌}
use Rattle.std.specs.declared.option.Option.TheVariants.{None}
use Rattle.crl_machine.specs.declared.node_row.NodeRow.{NodeRow}
use Rattle.crl_machine.specs.Seen.{state}
use Rattle.crl_machine.proofs.RowSet.{at_row}
use Rattle.crl_machine.proofs.States.{row_put, serial_used}
use Rattle.crl_machine.proofs.Tables.{agree_row}
use Rattle.crl_machine.proofs.machine.Machine.use_serial.Goals as goal

pub invariant_of-self-clause-agree : goal.invariant_of-self-clause-agree
unfolding state
invariant_of-self-clause-agree c =
    let fit = c.args.self.now.rows_fit in
    let d = c.index_mut-row.result.now in
    let read = c.index_mut-row.ensures.value in
    let used = at_row (λ (d : NodeRow). d.used) 0 _ _ _ d fit c.requires read in
    agree_row _ _ c.args.node _ (omega (arith, fit, c.requires)) (omega (arith, used, c.saturating_add-row.ensures)) (at_row (λ (d : NodeRow). d.deletes) None _ _ _ d fit c.requires read) c.args.self.now.agree

pub returns : goal.returns
unfolding state
returns c =
    let fit = c.args.self.now.rows_fit in
    let d = c.index_mut-row.result.now in
    let read = c.index_mut-row.ensures.value in
    let used = at_row (λ (d : NodeRow). d.used) 0 _ _ _ d fit c.requires read in
    row_put _ _ _ c.args.node _ (omega (arith, fit, c.requires))
    ∙ serial_used _ c.args.node _ _ _ _ (c.saturating_add-row.ensures ∙ ap (λ k. min (k + 1) 4294967295) used) (at_row (λ (d : NodeRow). d.came.items) [] _ _ _ d fit c.requires read) (at_row (λ (d : NodeRow). d.told) 0 _ _ _ d fit c.requires read)
