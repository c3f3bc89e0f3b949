-- The records of all nodes, merged by position.
use Rattle.std.specs.Prelude.{◌≡◌, ℕ, zero, suc, nat_lt, nat_le, if◌then◌else◌, List, [], ◌∷◌, ◌++◌, map, slice_index_or, slice_set, Option, Some, None}
use Rattle.crl_model.specs.declared.journal.Recorded.{Recorded}
use Rattle.crl_model.specs.declared.entry.Entry.{Entry}
use Rattle.crl_journal.specs.RecordsState.{RecordsState}
use Rattle.crl_journal.specs.declared.merging.Front.{Front}

-- the records before the first one whose position is at least p, and those from it on
abbrev pub first_before : ℕ → List Recorded → List Recorded
first_before p [] = []
first_before p (x ∷ xs) = if nat_lt x.position p then x ∷ first_before p xs else []

abbrev pub rest_from : ℕ → List Recorded → List Recorded
rest_from p [] = []
rest_from p (x ∷ xs) = if nat_lt x.position p then rest_from p xs else x ∷ xs

-- two lists, merged: the left one goes first if positions are equal
abbrev pub merge : List Recorded → List Recorded → List Recorded
merge [] ys = ys
merge (x ∷ xs) ys = first_before x.position ys ++ x ∷ merge xs (rest_from x.position ys)

-- further lists, merged into one
abbrev pub merge_into : List Recorded → List (List Recorded) → List Recorded
merge_into done [] = done
merge_into done (xs ∷ xss) = merge_into (merge done xs) xss

abbrev pub entries_of : List Recorded → List Entry
entries_of xs = map (λ (x : Recorded). x.entry) xs

abbrev pub merged_account : List (List Recorded) → List Entry
merged_account xss = entries_of (merge_into [] xss)

abbrev pub all_lists : List RecordsState → List (List Recorded)
all_lists journals = map (λ (r : RecordsState). r.list) journals

-- the one that comes sooner: what was found before, or the first of these records
abbrev pub next_by : Option Front → ℕ → List Recorded → Option Front
next_by next i [] = next
next_by None i (x ∷ xs) = Some (record { journal = i; position = x.position })
next_by (Some f) i (x ∷ xs) = if nat_le f.position x.position then Some f else Some (record { journal = i; position = x.position })

-- which of the first so many lists has the record that comes next
abbrev pub next_below : ℕ → List (List Recorded) → Option Front
next_below zero xss = None
next_below (suc i) xss = next_by (next_below i xss) i (slice_index_or xss i [])

-- the first record of a list was taken out
pub record IsPopped (i : ℕ) (xss : List (List Recorded)) (x : Recorded) (yss : List (List Recorded)) : Type 0 where
  pub head : slice_index_or xss i [] ≡ x ∷ slice_index_or yss i []
  pub rest : yss ≡ slice_set xss i (slice_index_or yss i [])
