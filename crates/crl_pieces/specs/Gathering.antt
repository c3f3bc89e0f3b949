-- What a gathering of pieces has: room for the whole, and by index the pieces that came.
use Rattle.std.specs.Prelude.{ℕ, Bool, if◌then◌else◌, List, [], ◌∷◌, length, take, drop, slice_index_or}
use Rattle.std.specs.declared.option.Option.{Option}
use Rattle.std.specs.declared.option.Option.TheVariants.{None, Some}
use Rattle.crl_pieces.specs.declared.TheConstants.{PIECE_LEN}
use Rattle.crl_pieces.specs.Pieces.{count, cut, nothing_came, with_piece}

pub record Gathering : Type 0 where
  pub size : ℕ
  pub slots : List (Option (List ℕ))

-- room for the whole, in which the pieces that came have their places
abbrev pub slots_of : List Bool → List ℕ → List (Option (List ℕ))
slots_of [] whole = []
slots_of (came ∷ rest) whole = (if came then Some (take PIECE_LEN whole) else None) ∷ slots_of rest (drop PIECE_LEN whole)

-- the slots after pieces of these bytes came, one after the other
abbrev pub with_pieces : List (List ℕ) → List ℕ → List (Option (List ℕ)) → List (Option (List ℕ))
with_pieces parts [] slots = slots
with_pieces parts (i ∷ order) slots = with_pieces parts order (with_piece i (slice_index_or parts i []) slots)

abbrev pub gathered : List ℕ → List ℕ → List (Option (List ℕ))
gathered bytes order = with_pieces (cut bytes) order (nothing_came (count (length bytes)))
