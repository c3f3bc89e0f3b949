use Rattle.std.proofs.Common.{◌∙◌, [], arith, ap, ◌++◌, ◌∷◌}
use Rattle.std.specs.declared.option.Option.TheVariants.{None}
use Rattle.crl_machine.specs.declared.node_row.NodeRow.{NodeRow}
use Rattle.crl_machine.specs.Seen.{state}
use Rattle.crl_machine.proofs.RowSet.{at_row}
use Rattle.crl_machine.proofs.States.{row_put, row_same, part_came, on_ok, on_err}
use Rattle.crl_machine.proofs.Tables.{agree_row}
use Rattle.crl_machine.proofs.machine.Machine.arrive.Goals as goal

pub invariant_of-self-clause-agree : goal.invariant_of-self-clause-agree
unfolding state
invariant_of-self-clause-agree c =
    let fit = c.args.self.now.rows_fit in
    let d = c.index_mut-row.result.now in
    let read = c.index_mut-row.ensures.value in
    let used = at_row (λ (d : NodeRow). d.used) 0 _ _ _ d fit c.requires.node read in
    agree_row _ _ c.args.node c.come.new.self (omega (arith, fit, c.requires.node)) (omega (arith, used, c.come.ensures.used))
    (c.come.ensures.deletes ∙ at_row (λ (d : NodeRow). d.deletes) None _ _ _ d fit c.requires.node read) c.args.self.now.agree

pub returns-clause-ok : goal.returns-clause-ok
unfolding state
returns-clause-ok c =
    let fit = c.args.self.now.rows_fit in
    let d = c.index_mut-row.result.now in
    let read = c.index_mut-row.ensures.value in
    on_ok c.come.result c.come.ensures.ok (λ came.
    row_put _ _ _ c.args.node c.come.new.self (omega (arith, fit, c.requires.node))
    ∙ part_came _ c.args.node _ _ _ _ (c.come.ensures.used ∙ at_row (λ (d : NodeRow). d.used) 0 _ _ _ d fit c.requires.node read)
    (came ∙ ap (λ ps. ps ++ c.args.part ∷ []) (at_row (λ (d : NodeRow). d.came.items) [] _ _ _ d fit c.requires.node read))
    (c.come.ensures.told ∙ at_row (λ (d : NodeRow). d.told) 0 _ _ _ d fit c.requires.node read))

pub returns-clause-err : goal.returns-clause-err
unfolding state
returns-clause-err c =
    let fit = c.args.self.now.rows_fit in
    let d = c.index_mut-row.result.now in
    let read = c.index_mut-row.ensures.value in
    on_err c.come.result c.come.ensures.err (λ came.
    row_put _ _ _ c.args.node c.come.new.self (omega (arith, fit, c.requires.node))
    ∙ row_same _ c.args.node _ _ _ (c.come.ensures.used ∙ at_row (λ (d : NodeRow). d.used) 0 _ _ _ d fit c.requires.node read)
    (came ∙ at_row (λ (d : NodeRow). d.came.items) [] _ _ _ d fit c.requires.node read)
    (c.come.ensures.told ∙ at_row (λ (d : NodeRow). d.told) 0 _ _ _ d fit c.requires.node read))
