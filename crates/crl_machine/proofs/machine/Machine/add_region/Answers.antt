use Rattle.std.proofs.Common.{◌≡◌, ℕ, ◌∙◌, ◌<◌, [], arith, ap, sym, ◌+◌}
use Rattle.std.specs.declared.option.Option.{Option}
use Rattle.std.specs.declared.option.Option.TheVariants.{None, Some}
use Rattle.crl_table.specs.Tables.{table_of}
use Rattle.crl_model.specs.Names.{at_node}
use Rattle.crl_machine.specs.declared.node_row.NodeRow.{NodeRow}
use Rattle.crl_machine.specs.SingleMachine.{State}
use Rattle.crl_machine.specs.Tables.{used_at}
use Rattle.crl_machine.specs.Seen.{state}
use Rattle.crl_machine.proofs.RowSet.{at_row}
use Rattle.crl_machine.proofs.States.{region_put, row_put, serial_used, region_added, absent}
use Rattle.crl_machine.proofs.Tables.{agree_added, fit_put, was_absent}
use Rattle.crl_machine.proofs.machine.Machine.add_region.Goals as goal

none : (c : goal.After-self-1) → table_of c.args.self.now.regions c.args.name.now ≡ None
unfolding state
none c = was_absent _ c.args.self.now.rows.items c.args.node c.args.name.now c.args.self.now.agree c.requires.home c.requires.serial

nobody : (m k : ℕ) → ◌≡◌ {A = Option ℕ} None (Some m) → m < k
nobody m k e = cc

pub invariant_of-self-clause-regions_fit : goal.invariant_of-self-clause-regions_fit
unfolding state
invariant_of-self-clause-regions_fit c =
    fit_put _ _ _ _ c.args.name.now c.new.result c.put.ensures.rows
    (record { shares = rw c.new.ensures.shares (omega arith); writer = λ n e. nobody n _ (sym c.new.ensures.writer ∙ e); size = omega (arith, c.new.ensures.size, c.requires.zeros) })
    c.args.self.now.regions_fit

pub invariant_of-self-clause-agree : goal.invariant_of-self-clause-agree
unfolding state
invariant_of-self-clause-agree c =
    let fit = c.args.self.now.rows_fit in
    agree_added _ _ _ c.args.node c.args.name.now c.new.result _ c.put.ensures.rows (none c) (omega (arith, fit, c.requires.node)) c.requires.home c.requires.serial c.new.ensures.stage c.requires.serial
    (at_row (λ (d : NodeRow). d.deletes) None _ _ _ c.index_mut-row.result.now fit c.requires.node c.index_mut-row.ensures.value) c.args.self.now.agree

pub returns : goal.returns
unfolding state
returns c =
    let fit = c.args.self.now.rows_fit in
    let d = c.index_mut-row.result.now in
    let read = c.index_mut-row.ensures.value in
    row_put _ _ _ c.args.node _ (omega (arith, fit, c.requires.node))
    ∙ serial_used _ c.args.node _ _ _ _ c.requires.serial (at_row (λ (d : NodeRow). d.came.items) [] _ _ _ d fit c.requires.node read) (at_row (λ (d : NodeRow). d.told) 0 _ _ _ d fit c.requires.node read)
    ∙ ap (λ (s : State). record s { used = at_node (used_at c.args.self.now.rows.items) c.args.node (used_at c.args.self.now.rows.items c.args.node + 1) })
    (region_put _ _ _ c.args.self.now.rows.items c.args.name.now c.new.result c.put.ensures.rows
    ∙ region_added _ c.args.name.now c.new.result c.args.size (absent c.args.self.now.nodes (table_of c.args.self.now.regions) c.args.self.now.rows.items c.args.name.now (none c.before)) c.new.ensures.stage c.new.ensures.bytes c.new.ensures.shares c.new.ensures.writer)
