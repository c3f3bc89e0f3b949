use Rattle.std.proofs.Common.{None, sym, ◌∙◌}
use Rattle.crl_table.proofs.Rows.{rows_same, places_after, place_after, no_row}
use Rattle.crl_table.proofs.Weights.{insert_weight}
use Rattle.crl_table.proofs.table.Table.ready.Goals as goal

pub returns-clause-rows : goal.returns-clause-rows
returns-clause-rows g c =
    let free = sym c.has_place.ensures ∙ c.if-has_place.false in
    rows_same c.args.name.now c.args.self.now _ (rw c.in_ok-add.was at c.add.ensures.update) (no_row c.args.name.now c.args.self.now free)

pub returns-clause-weight : goal.returns-clause-weight
returns-clause-weight g c = λ w.
    let free = sym c.has_place.ensures ∙ c.if-has_place.false in
    rw (rw c.in_ok-add.was at c.add.ensures.places) (insert_weight w c.args.name.now c.args.self.now free)

pub returns-clause-places : goal.returns-clause-places
returns-clause-places g c = places_after c.args.name.now None c.args.self.now _ (rw c.in_ok-add.was at c.add.ensures.update)

pub returns-clause-place : goal.returns-clause-place
returns-clause-place g c = place_after c.args.name.now None c.args.self.now _ (rw c.in_ok-add.was at c.add.ensures.update)
