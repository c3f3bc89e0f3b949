use Rattle.std.proofs.Common.{None, arith, sym, ◌∙◌}
use Rattle.crl_table.proofs.Names.{at_name_same}
use Rattle.crl_table.proofs.Rows.{rows_after, here_after, places_same, place_after, no_row, if_some}
use Rattle.crl_table.proofs.Weights.{set_weight}
use Rattle.crl_table.specs.Tables.{table_of}
use Rattle.crl_table.proofs.table.Table.take.Goals as goal

pub returns-then-not-has_place-clause-row : goal.returns-then-not-has_place-clause-row
returns-then-not-has_place-clause-row g c = sym (no_row c.args.name.now c.args.self.now (sym c.has_place.ensures ∙ c.if-not-has_place.true))

pub returns-then-not-has_place-clause-rows : goal.returns-then-not-has_place-clause-rows
returns-then-not-has_place-clause-rows g c = sym (at_name_same (table_of c.args.self.now) c.args.name.now None (no_row c.args.name.now c.args.self.now (sym c.has_place.ensures ∙ c.if-not-has_place.true)))

pub returns-then-not-has_place-clause-gone : goal.returns-then-not-has_place-clause-gone
returns-then-not-has_place-clause-gone g c = no_row c.args.name.now c.args.self.now (sym c.has_place.ensures ∙ c.if-not-has_place.true)

pub returns-clause-rows : goal.returns-clause-rows
returns-clause-rows g c = rows_after c.args.name.now None c.args.self.now _ c.swap.ensures.update

pub returns-clause-gone : goal.returns-clause-gone
returns-clause-gone g c = here_after c.args.name.now None c.args.self.now _ c.swap.ensures.update

pub returns-clause-places : goal.returns-clause-places
returns-clause-places g c = places_same c.args.name.now None c.args.self.now _ c.swap.ensures.update (sym c.has_place.ensures ∙ c.if-not-has_place.false)

pub returns-clause-place : goal.returns-clause-place
returns-clause-place g c = if_some c.swap.result (place_after c.args.name.now None c.args.self.now _ c.swap.ensures.update)

pub returns-clause-weight : goal.returns-clause-weight
returns-clause-weight g c = λ w. rw (c.swap.ensures.places, c.swap.ensures.value) (let e = set_weight w c.args.name.now None c.args.self.now (sym c.has_place.ensures ∙ c.if-not-has_place.false) in omega arith)
