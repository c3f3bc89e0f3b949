use Rattle.std.proofs.Common.{◌≡◌, ◌∙◌, arith, sym, refl, [], None, Some}
use Rattle.std.specs.declared.option.Option.{Option}
use Rattle.crl_model.specs.declared.name.Name.{Name}
use Rattle.crl_machine.specs.declared.node_row.NodeRow.{NodeRow}
use Rattle.crl_machine.specs.Tables.{deletes_at}
use Rattle.crl_machine.specs.Seen.{state}
use Rattle.crl_machine.proofs.RowSet.{at_row}
use Rattle.crl_machine.proofs.States.{region_put, row_put, row_same, found, stage_written}
use Rattle.crl_machine.proofs.Tables.{agree_begun, fit_put, fit_kept}
use Rattle.crl_machine.proofs.machine.Machine.begin_delete.Goals as goal

not_some : (o : Option Name) → ((q : Name) → o ≡ Some q → ⊥) → o ≡ None
not_some None h = refl
not_some (Some q) h = absurd (h q refl)

free : (c : goal.After-self-2-1) → deletes_at c.args.self.now.rows.items c.args.node ≡ None
unfolding state
free c = not_some _ (λ q noted. c.requires.free.1 q (c.args.self.now.agree.noted q c.args.node noted))

pub invariant_of-self-clause-regions_fit : goal.invariant_of-self-clause-regions_fit
unfolding state
invariant_of-self-clause-regions_fit c =
    let put = rw c.in-Some.is at (c.get_mut.follows.holds c.put_stage.new.self) in
    fit_put _ _ _ _ c.args.name.now c.put_stage.new.self put.rows
    (fit_kept _ _ c.in-Some.region.now c.put_stage.new.self c.put_stage.ensures.shares c.put_stage.ensures.writer c.put_stage.ensures.size (c.args.self.now.regions_fit _ _ (sym c.in-Some.ensures.row))) c.args.self.now.regions_fit

pub invariant_of-self-clause-agree : goal.invariant_of-self-clause-agree
unfolding state
invariant_of-self-clause-agree c =
    let put = rw c.in-Some.is at (c.get_mut.follows.holds c.put_stage.new.self) in
    let is = sym c.in-Some.ensures.row in
    let fit = c.args.self.now.rows_fit in
    agree_begun _ _ _ c.args.node c.args.name.now c.in-Some.region.now c.put_stage.new.self _ put.rows is (omega (arith, fit, c.requires.node)) (rw is at c.requires.live) c.put_stage.ensures.stage
    (at_row (λ (d : NodeRow). d.used) 0 _ _ _ c.index_mut-row.result.now fit c.requires.node c.index_mut-row.ensures.value) refl (free c) c.args.self.now.agree

pub returns : goal.returns
unfolding state
returns c =
    let put = rw c.in-Some.is at (c.get_mut.follows.holds c.put_stage.new.self) in
    let is = sym c.in-Some.ensures.row in
    let fit = c.args.self.now.rows_fit in
    let d = c.index_mut-row.result.now in
    let read = c.index_mut-row.ensures.value in
    row_put _ _ _ c.args.node _ (omega (arith, fit, c.requires.node))
    ∙ row_same _ c.args.node _ _ _ (at_row (λ (d : NodeRow). d.used) 0 _ _ _ d fit c.requires.node read) (at_row (λ (d : NodeRow). d.came.items) [] _ _ _ d fit c.requires.node read) (at_row (λ (d : NodeRow). d.told) 0 _ _ _ d fit c.requires.node read)
    ∙ region_put _ _ _ _ c.args.name.now c.put_stage.new.self put.rows
    ∙ stage_written _ c.args.name.now c.in-Some.region.now c.put_stage.new.self _ (found _ _ _ c.args.name.now c.in-Some.region.now is) c.put_stage.ensures.stage c.put_stage.ensures.bytes c.put_stage.ensures.writer c.put_stage.ensures.shares
