-- The lifetimes by serial, where a row is added, read or written.
use Rattle.std.proofs.Common.{◌≡◌, ◌≢◌, ℕ, zero, suc, ◌+◌, ◌-◌, ◌<◌, ◌≤◌, Bool, true, false, ◌==◌, List, [], ◌∷◌, ◌++◌, refl, sym, ap, ◌∙◌, arith, length, slice_index_or, slice_set}
use Rattle.std.proofs.lemmas.List.Elements.{All-push, All-set, All-get_or}
use Rattle.std.proofs.lemmas.Bool.{cond-true, cond-false, eqb-false, ne_eqb}
use Rattle.crl_model.specs.Names.{at_node}
use Rattle.crl_protocol.specs.Lifetimes.{Lifetime, no_lifetime, lifetime_with_asker}
use Rattle.crl_stages.specs.declared.row.Row.{Row}
use Rattle.crl_stages.specs.RowLifetimes.{row_lifetime, RowFits}
use Rattle.crl_stages.specs.StagesState.{lifetime_at, lifetime_in, AreRows}
use Rattle.crl_stages.proofs.Nodes.{is_at_node, as_it_was}

at_end : (row : Row) (rows : List Row) → lifetime_at (length rows) (rows ++ row ∷ []) ≡ row_lifetime row
at_end row [] = refl
at_end row (r ∷ rows) = at_end row rows

before_end : (row : Row) (n : ℕ) (rows : List Row) → n ≢ length rows → lifetime_at n (rows ++ row ∷ []) ≡ lifetime_at n rows
before_end row zero [] h = absurd (h refl)
before_end row (suc n) [] h = refl
before_end row zero (r ∷ rows) h = refl
before_end row (suc n) (r ∷ rows) h = before_end row n rows (λ e. h (ap suc e))

at_written : (row : Row) (n : ℕ) (rows : List Row) → n < length rows → lifetime_at n (slice_set rows n row) ≡ row_lifetime row
at_written row n [] h = grind arith
at_written row zero (r ∷ rows) h = refl
at_written row (suc n) (r ∷ rows) h = at_written row n rows (omega arith)

beside_written : (row : Row) (n k : ℕ) (rows : List Row) → k ≢ n → lifetime_at k (slice_set rows n row) ≡ lifetime_at k rows
beside_written row n k [] h = refl
beside_written row zero zero (r ∷ rows) h = absurd (h refl)
beside_written row zero (suc k) (r ∷ rows) h = refl
beside_written row (suc n) zero (r ∷ rows) h = refl
beside_written row (suc n) (suc k) (r ∷ rows) h = beside_written row n k rows (λ e. h (ap suc e))

at_place : (n : ℕ) (rows : List Row) (d : Row) → n < length rows → lifetime_at n rows ≡ row_lifetime (slice_index_or rows n d)
at_place n [] d h = grind arith
at_place zero (r ∷ rows) d h = refl
at_place (suc n) (r ∷ rows) d h = at_place n rows d (omega arith)

past_end : (n : ℕ) (rows : List Row) → length rows ≤ n → lifetime_at n rows ≡ no_lifetime
past_end n [] h = refl
past_end zero (r ∷ rows) h = grind arith
past_end (suc n) (r ∷ rows) h = past_end n rows (omega arith)

in_place : (rows : List Row) (serial : ℕ) → serial ≢ 0 → lifetime_in rows serial ≡ lifetime_at (serial - 1) rows
in_place rows serial h = cond-false (serial == 0) no_lifetime (lifetime_at (serial - 1) rows) (ne_eqb serial 0 h)

-- rows that say the same at a serial
same_in : (xs ys : List Row) (serial : ℕ) → (serial ≢ 0 → lifetime_at (serial - 1) xs ≡ lifetime_at (serial - 1) ys) → lifetime_in xs serial ≡ lifetime_in ys serial
same_in xs ys serial h = go (serial == 0) refl
  where
    go : (b : Bool) → (serial == 0) ≡ b → lifetime_in xs serial ≡ lifetime_in ys serial
    go true e = cond-true (serial == 0) _ _ e ∙ sym (cond-true (serial == 0) _ _ e)
    go false e = let ne : serial ≢ 0 = eqb-false serial 0 e in in_place xs serial ne ∙ h ne ∙ sym (in_place ys serial ne)

pub pushed : (rows : List Row) (row : Row) → lifetime_in (rows ++ row ∷ []) ≡ at_node (lifetime_in rows) (length rows + 1) (row_lifetime row)
pushed rows row = is_at_node (lifetime_in rows) (lifetime_in (rows ++ row ∷ [])) (length rows + 1) (row_lifetime row)
    (in_place (rows ++ row ∷ []) (length rows + 1) (λ e. omega arith) ∙ ap (λ n. lifetime_at n (rows ++ row ∷ [])) (back (length rows)) ∙ at_end row rows)
    (λ i h. same_in (rows ++ row ∷ []) rows i (λ ne. before_end row (i - 1) rows (λ e. h (omega arith))))
  where
    back : (n : ℕ) → n + 1 - 1 ≡ n
    back n = omega arith

pub written : (rows : List Row) (serial : ℕ) (row : Row) → 0 < serial → serial ≤ length rows → lifetime_in (slice_set rows (serial - 1) row) ≡ at_node (lifetime_in rows) serial (row_lifetime row)
written rows serial row above within = is_at_node (lifetime_in rows) (lifetime_in (slice_set rows (serial - 1) row)) serial (row_lifetime row)
    (in_place (slice_set rows (serial - 1) row) serial (λ e. omega arith) ∙ at_written row (serial - 1) rows (omega arith))
    (λ i h. same_in (slice_set rows (serial - 1) row) rows i (λ ne. beside_written row (serial - 1) (i - 1) rows (λ e. h (omega arith))))

pub read : (rows : List Row) (serial : ℕ) (d : Row) → 0 < serial → serial ≤ length rows → lifetime_in rows serial ≡ row_lifetime (slice_index_or rows (serial - 1) d)
read rows serial d above within = in_place rows serial (λ e. omega arith) ∙ at_place (serial - 1) rows d (omega arith)

pub nothing_past : (rows : List Row) (serial : ℕ) → length rows < serial → lifetime_in rows serial ≡ no_lifetime
nothing_past rows serial h = in_place rows serial (λ e. omega arith) ∙ past_end (serial - 1) rows (omega arith)

pub past_rows : (rows : List Row) → at_node (lifetime_in rows) (length rows + 1) no_lifetime ≡ lifetime_in rows
past_rows rows = as_it_was (lifetime_in rows) (length rows + 1) no_lifetime (nothing_past rows (length rows + 1) (omega arith))

-- an asker of what isn't there changes nothing
pub unknown_asked : (f : ℕ → Lifetime) (serial from : ℕ) → f serial ≡ no_lifetime → f ≡ at_node f serial (lifetime_with_asker from (f serial))
unfolding lifetime_with_asker
unknown_asked f serial from e = sym (as_it_was f serial (lifetime_with_asker from (f serial)) (e ∙ sym (ap (lifetime_with_asker from) e)))

-- what is true of the rows stays true
pub rows_push : (nodes : ℕ) (rows : List Row) (row : Row) → AreRows nodes rows → RowFits nodes row → AreRows nodes (rows ++ row ∷ [])
rows_push nodes rows row h fits = record { few = h.few; fit = All-push (RowFits nodes) rows row h.fit fits }

pub rows_set : (nodes n : ℕ) (rows : List Row) (row : Row) → AreRows nodes rows → RowFits nodes row → AreRows nodes (slice_set rows n row)
rows_set nodes n rows row h fits = record { few = h.few; fit = All-set (RowFits nodes) rows n row fits h.fit }

pub fits_at : (nodes n : ℕ) (rows : List Row) (d : Row) → n < length rows → AreRows nodes rows → RowFits nodes (slice_index_or rows n d)
fits_at nodes n rows d h rows_fit = All-get_or (RowFits nodes) rows n d h rows_fit.fit
