-- Lists read as tables from numbers, and things taken out of lists.
use Rattle.std.specs.Prelude.{ℕ, zero, suc, List, [], ◌∷◌}
use Rattle.std.specs.declared.option.Option.{Option}
use Rattle.std.specs.declared.option.Option.TheVariants.{None, Some}

-- the value at a place, none past the end
abbrev pub at : {A : Type 0} → ℕ → List (Option A) → Option A
at n [] = None
at zero (x ∷ xs) = x
at (suc n) (x ∷ xs) = at n xs

-- The list with another value at a place. Where the place is past the end, the places before it are empty.
abbrev pub put : {A : Type 0} → ℕ → Option A → List (Option A) → List (Option A)
put zero v [] = v ∷ []
put (suc n) v [] = None ∷ put n v []
put zero v (x ∷ xs) = v ∷ xs
put (suc n) v (x ∷ xs) = x ∷ put n v xs

-- What stands at a place, and the list without it.
pub record Taken (A : Type 0) : Type 0 where
  pub taken : A
  pub rest : List A

abbrev pub behind : {A : Type 0} → A → Option (Taken A) → Option (Taken A)
behind x None = None
behind x (Some t) = Some (record { taken = t.taken; rest = x ∷ t.rest })

abbrev pub take_out : {A : Type 0} → ℕ → List A → Option (Taken A)
take_out n [] = None
take_out zero (x ∷ xs) = Some (record { taken = x; rest = xs })
take_out (suc n) (x ∷ xs) = behind x (take_out n xs)

-- x is taken out of a list at some place, and this is left
pub data Took {A : Type 0} : A → List A → List A → Type 0 where
  here : {x : A} {xs : List A} → Took x (x ∷ xs) xs
  there : {x y : A} {xs ys : List A} → Took x xs ys → Took x (y ∷ xs) (y ∷ ys)

-- what the selector finds, in order
abbrev pub find_all : {A B : Type 0} → (A → Option B) → List A → List B
find_all f [] = []
find_all f (x ∷ xs) = elim (f x) [ None ↦ find_all f xs | Some y ↦ y ∷ find_all f xs ]
