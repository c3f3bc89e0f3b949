-- What is seen of the records of a node.
use Rattle.std.specs.Prelude.{ℕ, List, [], ◌∷◌, Option, None, Some}
use Rattle.crl_model.specs.declared.entry.Entry.{Entry}
use Rattle.crl_model.specs.declared.journal.Recorded.{Recorded}

-- the records, the oldest first, and how many more there is room for
pub record RecordsState : Type 0 where
  pub list : List Recorded
  pub room : ℕ

-- the records with these positions and entries
abbrev pub with_positions : List ℕ → List Entry → List Recorded
with_positions [] es = []
with_positions (p ∷ ps) [] = []
with_positions (p ∷ ps) (e ∷ es) = record { position = p; entry = e } ∷ with_positions ps es

-- the position of the first record, if there is one
abbrev pub first_position : List Recorded → Option ℕ
first_position [] = None
first_position (x ∷ xs) = Some x.position
