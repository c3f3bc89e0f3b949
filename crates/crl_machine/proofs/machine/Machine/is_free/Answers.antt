use Rattle.std.proofs.Common.{◌≡◌, ◌≤◌, ◌∙◌, ℕ, Bool, true, false, [], length, arith, sym, ap, None, Some, true≢false}
use Rattle.std.specs.Prelude.{is_some, not, List}
use Rattle.std.specs.Bool.{MatchBool}
use Rattle.std.specs.declared.option.Option.{Option}
use Rattle.crl_model.specs.declared.name.Name.{Name}
use Rattle.crl_machine.specs.declared.node_row.NodeRow.{NodeRow}
use Rattle.crl_machine.specs.declared.region.Region.{Region}
use Rattle.crl_machine.specs.Regions.{TablesAgree}
use Rattle.crl_machine.specs.Seen.{state, state_of}
use Rattle.crl_machine.specs.SingleMachine.{IsFree}
use Rattle.crl_machine.specs.Tables.{came_at, told_at, deletes_at}
use Rattle.crl_table.specs.Tables.{table_of}
use Rattle.crl_machine.proofs.RowSet.{at_row}
use Rattle.crl_machine.proofs.machine.Machine.is_free.Goals as goal

-- a node is free where it was told all and notes no delete
free_by : (nodes : ℕ) (G : Name → Option Region) (ds : List NodeRow) (n : ℕ) (o : Option Name) (b : Bool) → TablesAgree G ds → deletes_at ds n ≡ o → is_some o ≡ not b → length (came_at ds n) ≤ told_at ds n
    → MatchBool b (IsFree (state_of nodes G ds) n) (IsFree (state_of nodes G ds) n → ⊥)
free_by nodes G ds n None true a none e told = (told, λ q going. no_name (sym none ∙ a.going q n going))
  where
    no_name : {q : Name} → ◌≡◌ {A = Option Name} None (Some q) → ⊥
    no_name e = cc
free_by nodes G ds n (Some q) true a some e told = absurd (true≢false e)
free_by nodes G ds n None false a none e told = absurd (true≢false (sym e))
free_by nodes G ds n (Some q) false a some e told = λ free. free.1 q (a.noted q n some)

pub returns-then-len-row : goal.returns-then-len-row
unfolding state
returns-then-len-row c =
    let fit = c.args.self.now.rows_fit in
    let d = c.index-row.result.now in
    let told = at_row (λ (d : NodeRow). d.told) 0 _ _ _ d fit c.requires c.index-row.ensures in
    let came = ap length (at_row (λ (d : NodeRow). d.came.items) [] _ _ _ d fit c.requires c.index-row.ensures) in
    free_by c.args.self.now.nodes (table_of c.args.self.now.regions) c.args.self.now.rows.items c.args.node d.deletes _ c.args.self.now.agree (sym (at_row (λ (d : NodeRow). d.deletes) None _ _ _ d fit c.requires c.index-row.ensures)) c.is_none.ensures
    (omega (arith, told, came, c.if-len-row.true, c.len.ensures))

pub returns-else-len-row : goal.returns-else-len-row
unfolding state
returns-else-len-row c =
    let fit = c.args.self.now.rows_fit in
    let d = c.index-row.result.now in
    let told = at_row (λ (d : NodeRow). d.told) 0 _ _ _ d fit c.requires c.index-row.ensures in
    let came = ap length (at_row (λ (d : NodeRow). d.came.items) [] _ _ _ d fit c.requires c.index-row.ensures) in
    let waits : IsFree (state_of c.args.self.now.nodes (table_of c.args.self.now.regions) c.args.self.now.rows.items) c.args.node → ⊥ = λ free. omega (arith, free.0, told, came, c.if-len-row.false, c.len.ensures) in
    grind (arith, waits)
