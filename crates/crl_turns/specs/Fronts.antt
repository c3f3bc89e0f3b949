-- Lists of events, of which one may begin another.
use Rattle.std.specs.Prelude.{◌≡◌, ℕ, ◌≤◌, List, ◌∷◌, ◌++◌, length, Bool, true, false}

module _ {E : Type 0} where
  -- the second list begins with the first
  abbrev pub Begins : List E → List E → Type 0
  Begins start whole = (rest : List E) × (start ++ rest ≡ whole)

  -- each event of the list is enabled after those before it
  abbrev pub Runs : (List E → E → Type 0) → List E → Type 0
  Runs enabled log = (before : List E) (event : E) (after : List E) → before ++ event ∷ after ≡ log → enabled before event

  -- no event of the list from this position on touches the part, where each stands
  abbrev pub Spares : (List E → E → Type 0) → ℕ → List E → Type 0
  Spares touches position log = (before : List E) (event : E) (after : List E) → before ++ event ∷ after ≡ log → position ≤ length before → touches before event → ⊥

  -- the second of two lists where it is longer, else the first
  abbrev pub longer_by : Bool → List E → List E → List E
  longer_by true first second = second
  longer_by false first second = first
