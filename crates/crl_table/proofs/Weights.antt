-- What a change of one place does to the weight of all rows.
use Rattle.std.proofs.Common.{◌≡◌, ℕ, ◌+◌, ◌≤◌, Bool, true, false, cond, List, [], ◌∷◌, refl, ap, arith, is_eq, Ordering}
use Rattle.std.specs.Map.{lookup, set_value}
use Rattle.std.specs.Ordering.{match_ordering}
use Rattle.std.specs.declared.cmp.Ordering.TheVariants.{Less, Equal, Greater}
use Rattle.std.specs.BTreeMap.{is_at, insert_entry}
use Rattle.std.specs.Option.{option_map_or}
use Rattle.std.specs.declared.option.Option.{Option}
use Rattle.std.specs.declared.option.Option.TheVariants.{None, Some}
use Rattle.crl_model.specs.declared.name.Name.{Name}
use Rattle.crl_model.specs.Names.{name_cmp}
use Rattle.crl_table.specs.Tables.{table_of, has_place, HasPlace, weight, weight_of}

abbrev row_in : {A : Type 0} → (Name → Bool) → List (Name × Option A) → Option A
row_in test places = option_map_or (λ row. row) (lookup test places) None

abbrev is_in : {A : Type 0} → (Name → Bool) → List (Name × Option A) → Bool
is_in test places = option_map_or (λ row. true) (lookup test places) false

set_by : {A : Type 0} (w : A → ℕ) (test : Name → Bool) (v : Option A) (places : List (Name × Option A)) → is_in test places ≡ true →
    weight w (set_value test places v) + weight_of w (row_in test places) ≡ weight w places + weight_of w v
unfolding weight
set_by w test v [] h = grind arith
set_by {A} w test v (p ∷ ps) h = go (test p.0) h (λ k. set_by w test v ps k)
  where
    go : (b : Bool) → option_map_or (λ (row : Option A). true) (cond b (Some p.1) (lookup test ps)) false ≡ true
        → (is_in test ps ≡ true → weight w (set_value test ps v) + weight_of w (row_in test ps) ≡ weight w ps + weight_of w v)
        → weight w (cond b ((p.0, v) ∷ ps) (p ∷ set_value test ps v)) + weight_of w (option_map_or (λ row. row) (cond b (Some p.1) (lookup test ps)) None) ≡ weight w (p ∷ ps) + weight_of w v
    go true h later = omega arith
    go false h later = let e = later h in omega arith

pub set_weight : {A : Type 0} (w : A → ℕ) (name : Name) (v : Option A) (places : List (Name × Option A)) → HasPlace name places →
    weight w (set_value (is_at (name_cmp name)) places v) + weight_of w (table_of places name) ≡ weight w places + weight_of w v
unfolding table_of has_place
set_weight w name v places h = set_by w (is_at (name_cmp name)) v places h

insert_in : {A : Type 0} (w : A → ℕ) (name : Name) (places : List (Name × Option A)) → is_in (is_at (name_cmp name)) places ≡ false → weight w (insert_entry name_cmp places name None) ≡ weight w places
unfolding weight
insert_in w name [] h = refl
insert_in {A} w name (p ∷ ps) h = go (name_cmp name p.0) h (λ k. insert_in w name ps k)
  where
    go : (o : Ordering) → option_map_or (λ (row : Option A). true) (cond (is_eq o) (Some p.1) (lookup (is_at (name_cmp name)) ps)) false ≡ false
        → (is_in (is_at (name_cmp name)) ps ≡ false → weight w (insert_entry name_cmp ps name None) ≡ weight w ps)
        → weight w (match_ordering o ((name, None) ∷ p ∷ ps) ((p.0, None) ∷ ps) (p ∷ insert_entry name_cmp ps name None)) ≡ weight w (p ∷ ps)
    go Less h later = omega arith
    go Equal h later = grind arith
    go Greater h later = ap (λ n. weight_of w p.1 + n) (later h)

pub insert_weight : {A : Type 0} (w : A → ℕ) (name : Name) (places : List (Name × Option A)) → has_place places name ≡ false → weight w (insert_entry name_cmp places name None) ≡ weight w places
unfolding has_place
insert_weight w name places h = insert_in w name places h

one_by : {A : Type 0} (w : A → ℕ) (test : Name → Bool) (places : List (Name × Option A)) → weight_of w (row_in test places) ≤ weight w places
unfolding weight
one_by w test [] = omega arith
one_by {A} w test (p ∷ ps) = go (test p.0) (one_by w test ps)
  where
    go : (b : Bool) → weight_of w (row_in test ps) ≤ weight w ps → weight_of w (option_map_or (λ row. row) (cond b (Some p.1) (lookup test ps)) None) ≤ weight w (p ∷ ps)
    go true e = omega arith
    go false e = omega arith

-- a row weighs no more than all rows
pub one_weight : {A : Type 0} (w : A → ℕ) (name : Name) (places : List (Name × Option A)) → weight_of w (table_of places name) ≤ weight w places
unfolding table_of
one_weight w name places = one_by w (is_at (name_cmp name)) places
