use Rattle.std.proofs.Common.{Some, None, refl, sym, ap, ◌∙◌}
use Rattle.std.specs.Option.{option_map_or}
use Rattle.crl_table.specs.Tables.{table_of}
use Rattle.crl_table.proofs.Rows.{put_from, found_place, set_same, on_some}
use Rattle.crl_table.proofs.table.Table.get_mut.Goals as goal

pub returns-in-Some : goal.returns-in-Some
unfolding table_of
returns-in-Some g c =
    let found = sym c.in-Some.ensures.value in
    let there = found_place c.args.name.now c.in-Some.place.now c.args.self.now (rw (← c.self.view_is) found) in (
      (
        refl,
        (λ w.
            let h = c.get_mut.follows.holds (Some w) in
            on_some c.as_mut.result (put_from c.args.name.now w c.args.self.now _ there (rw (← c.self.view_is) h.0) (rw (← c.self.view_is) (h.3 (rw found refl)).0))),
        rw (← c.self.view_is) (let h = c.get_mut.follows.holds c.in-Some.place.now in h.0 ∙ set_same _ _ _ found),
      ),
      record { writes_back = tt {0}; row = rw (← c.self.view_is) (c.as_mut.ensures.value ∙ ap (λ x. option_map_or (λ row. row) x None) c.in-Some.ensures.value) },
    )

pub returns-in-None : goal.returns-in-None
unfolding table_of
returns-in-None g c = (
  (refl, (λ w. tt {0}), ap (λ m. m.entries) c.get_mut.follows.holds-at-none ∙ c.self.view_is),
  record { writes_back = tt {0}; row = rw (← c.self.view_is) (ap (λ x. option_map_or (λ row. row) x None) c.in-None.ensures.value) },
)
