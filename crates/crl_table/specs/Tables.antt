-- Rows by name. A table is seen as the list of its places: the names that have one, each with its row or
-- none. What it means is the function from a name to its row.
use Rattle.std.specs.Prelude.{ℕ, ◌+◌, Bool, cond, true, false, ◌≡◌, List, [], ◌∷◌}
use Rattle.std.specs.Map.{lookup}
use Rattle.std.specs.BTreeMap.{is_at}
use Rattle.std.specs.Option.{option_map_or}
use Rattle.std.specs.declared.option.Option.{Option}
use Rattle.std.specs.declared.option.Option.TheVariants.{None, Some}
use Rattle.crl_model.specs.declared.name.Name.{Name}
use Rattle.crl_model.specs.Names.{name_cmp, at_name}

-- the row of each name, or none
unfoldable pub table_of : {A : Type 0} → List (Name × Option A) → Name → Option A
table_of places name = option_map_or (λ row. row) (lookup (is_at (name_cmp name)) places) None

-- whether the name has a place, with a row or without
unfoldable pub has_place : {A : Type 0} → List (Name × Option A) → Name → Bool
has_place places name = option_map_or (λ row. true) (lookup (is_at (name_cmp name)) places) false

abbrev pub HasPlace : {A : Type 0} → Name → List (Name × Option A) → Type 0
HasPlace name places = has_place places name ≡ true

-- what a row weighs, and no row: nothing
abbrev pub weight_of : {A : Type 0} → (A → ℕ) → Option A → ℕ
weight_of w row = option_map_or w row 0

-- what all rows weigh together
unfoldable pub weight : {A : Type 0} → (A → ℕ) → List (Name × Option A) → ℕ
weight w [] = 0
weight w (place ∷ places) = weight_of w place.1 + weight w places

-- the name has a place with this row, or none, and all other places are as they were
abbrev pub IsUpdate : {A : Type 0} → Name → Option A → List (Name × Option A) → List (Name × Option A) → Type 0
IsUpdate name row old new =
    (q : Name) → lookup (is_at (name_cmp q)) new ≡ cond (is_at (name_cmp name) q) (Some row) (lookup (is_at (name_cmp q)) old)

-- the row of the name is this one, and all else is as it was
pub record IsPut {A : Type 0} (name : Name) (row : A) (old new : List (Name × Option A)) : Type 0 where
  pub rows : table_of new ≡ at_name (table_of old) name (Some row)
  pub here : table_of new name ≡ Some row
  pub places : has_place new ≡ has_place old
  pub place : HasPlace name new
  pub weight : (w : A → ℕ) → weight w new + weight_of w (table_of old name) ≡ weight w old + w row
