-- A row written into the list of the nodes' rows.
use Rattle.std.proofs.Common.{◌≡◌, ℕ, zero, suc, ◌<◌, cond, true, false, eqb, List, [], ◌∷◌, length, set, refl, sym, ap, arith}
use Rattle.std.specs.Prelude.{slice_get}
use Rattle.std.proofs.Common.{get_or}
use Rattle.std.proofs.lemmas.Option.{slice_get_read}
use Rattle.std.proofs.lemmas.Grind.{common_steps}
use Rattle.std.specs.Option.{option_map_or}
use Rattle.std.specs.declared.option.Option.TheVariants.{Some}
use Rattle.crl_machine.specs.declared.node_row.NodeRow.{NodeRow}
use Rattle.crl_model.specs.Names.{at_node}

set_here : (ds : List NodeRow) (n : ℕ) (d : NodeRow) → n < length ds → slice_get (set ds n d) n ≡ Some d
set_here [] n d h = absurd (omega arith)
set_here (x ∷ ds) zero d h = refl
set_here (x ∷ ds) (suc n) d h = set_here ds n d (omega arith)

set_other : (ds : List NodeRow) (n m : ℕ) (d : NodeRow) → (n ≡ m → ⊥) → slice_get (set ds n d) m ≡ slice_get ds m
set_other [] n m d h = refl
set_other (x ∷ ds) zero zero d h = absurd (h refl)
set_other (x ∷ ds) zero (suc m) d h = refl
set_other (x ∷ ds) (suc n) zero d h = refl
set_other (x ∷ ds) (suc n) (suc m) d h = set_other ds n m d (λ e. h (ap suc e))

-- what is read of the rows after one was written
pub row_set : {X : Type 0} (f : NodeRow → X) (e : X) (ds : List NodeRow) (n : ℕ) (d : NodeRow) → n < length ds
    → (λ m. option_map_or f (slice_get (set ds n d) m) e) ≡ at_node (λ m. option_map_or f (slice_get ds m) e) n (f d)
row_set f e ds n d inside = λ i m. elim (eqb n m) as (λ b. eqb n m ≡ b → option_map_or f (slice_get (set ds n d) m) e ≡ cond b (f d) (option_map_or f (slice_get ds m) e)) [
  | true ↦ λ here. let same : n ≡ m = grind arith in rw (← same, set_here ds n d inside) refl
  | false ↦ λ other. let apart : n ≡ m → ⊥ = grind arith in rw (set_other ds n m d apart) refl
] refl i

-- what was read of a row
pub at_row : {X : Type 0} (f : NodeRow → X) (e : X) (ds : List NodeRow) (n k : ℕ) (d : NodeRow) → length ds ≡ k → n < k → d ≡ get_or ds n d → f d ≡ option_map_or f (slice_get ds n) e
at_row f e ds n k d fit inside is = let there : slice_get ds n ≡ Some d = slice_get_read _ _ _ _ (sym fit) inside is in rw there refl

-- how many rows there are after one was written
pub still_rows : (ds : List NodeRow) (n k : ℕ) (d : NodeRow) → length ds ≡ k → length (set ds n d) ≡ k
still_rows ds n k d e = grind (arith, common_steps)
