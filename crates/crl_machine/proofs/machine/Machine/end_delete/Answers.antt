use Rattle.std.proofs.Common.{◌∙◌, arith, sym, refl, []}
use Rattle.crl_machine.specs.declared.node_row.NodeRow.{NodeRow}
use Rattle.crl_machine.specs.Seen.{state}
use Rattle.crl_machine.proofs.RowSet.{at_row}
use Rattle.crl_machine.proofs.States.{region_put, row_put, row_same, found, stage_written}
use Rattle.crl_machine.proofs.Tables.{agree_ended, fit_put, fit_kept}
use Rattle.crl_machine.proofs.machine.Machine.end_delete.Goals as goal

pub invariant_of-self-clause-regions_fit : goal.invariant_of-self-clause-regions_fit
unfolding state
invariant_of-self-clause-regions_fit c =
    let put = rw c.in-Some.is at (c.get_mut.follows.holds c.put_stage.new.self) in
    fit_put _ _ _ _ c.args.name.now c.put_stage.new.self put.rows
    (fit_kept _ _ c.in-Some.region.now c.put_stage.new.self c.put_stage.ensures.shares c.put_stage.ensures.writer c.put_stage.ensures.size (c.args.self.now.regions_fit _ _ (sym c.in-Some.ensures.row))) c.args.self.now.regions_fit

pub invariant_of-self-clause-agree : goal.invariant_of-self-clause-agree
unfolding state
invariant_of-self-clause-agree c =
    let put = rw c.in-Some.is at (c.get_mut.follows.holds c.put_stage.new.self) in
    let is = sym c.in-Some.ensures.row in
    let fit = c.args.self.now.rows_fit in
    agree_ended _ _ _ c.args.node c.args.name.now c.in-Some.region.now c.put_stage.new.self _ put.rows is (omega (arith, fit, c.requires.node)) (rw is at c.requires.going) c.put_stage.ensures.stage
    (at_row (λ (d : NodeRow). d.used) 0 _ _ _ c.index_mut-row.result.now fit c.requires.node c.index_mut-row.ensures.value) refl c.args.self.now.agree

pub returns : goal.returns
unfolding state
returns c =
    let put = rw c.in-Some.is at (c.get_mut.follows.holds c.put_stage.new.self) in
    let is = sym c.in-Some.ensures.row in
    let fit = c.args.self.now.rows_fit in
    let d = c.index_mut-row.result.now in
    let read = c.index_mut-row.ensures.value in
    row_put _ _ _ c.args.node _ (omega (arith, fit, c.requires.node))
    ∙ row_same _ c.args.node _ _ _ (at_row (λ (d : NodeRow). d.used) 0 _ _ _ d fit c.requires.node read) (at_row (λ (d : NodeRow). d.came.items) [] _ _ _ d fit c.requires.node read) (at_row (λ (d : NodeRow). d.told) 0 _ _ _ d fit c.requires.node read)
    ∙ region_put _ _ _ _ c.args.name.now c.put_stage.new.self put.rows
    ∙ stage_written _ c.args.name.now c.in-Some.region.now c.put_stage.new.self _ (found _ _ _ c.args.name.now c.in-Some.region.now is) c.put_stage.ensures.stage c.put_stage.ensures.bytes c.put_stage.ensures.writer c.put_stage.ensures.shares
