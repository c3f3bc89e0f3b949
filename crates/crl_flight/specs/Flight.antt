-- What is under way: each message with its pieces, of which some came.
use Rattle.std.specs.Prelude.{◌≡◌, ◌≢◌, ℕ, ◌==◌, Bool, false, ◌&&◌, if◌then◌else◌, List, [], ◌∷◌, ◌++◌, length, map}
use Rattle.std.specs.List.{AllByRecursion}
use Rattle.std.specs.declared.option.Option.{Option}
use Rattle.std.specs.declared.option.Option.TheVariants.{None, Some}
use Rattle.crl_model.specs.declared.message.Message.{Message}
use Rattle.crl_protocol.specs.Places.{Took}
use Rattle.crl_pieces.specs.Pieces.{cut, Cell, fresh, parts_of, slots, left_from, has_come}
use Rattle.crl_protocol.specs.Parcels.{Piece, load_of, piece_of, Key, key_eq, key_of, PartsGathered}

-- the same elements in another order, by taking one out and putting it in again
pub data Moves {A : Type 0} : List A → List A → Type 0 where
  still : {xs : List A} → Moves xs xs
  moved : {xs ys zs : List A} (x : A) (rest : List A) → Took x xs rest → Took x ys rest → Moves ys zs → Moves xs zs

-- a message under way, and which of its pieces came
pub record Under : Type 0 where
  pub message : Message
  pub cells : List Cell

abbrev pub posted : Message → Under
posted m = record { message = m; cells = fresh (cut (load_of m.kind)) }

-- its pieces that are in boxes, and what its addressee has gathered of it
abbrev pub left_of : Under → List Piece
left_of u = left_from (piece_of u.message (length u.cells)) 0 u.cells

abbrev pub lefts : List Under → List Piece
lefts [] = []
lefts (u ∷ us) = left_of u ++ lefts us

abbrev pub entry_of : List Cell → Option (List (Option (List ℕ)))
entry_of cells = if has_come cells then Some (slots cells) else None

abbrev pub is_key : Key → Option Key → Bool
is_key k None = false
is_key k (Some l) = key_eq k l

abbrev pub is_at : ℕ → Key → Under → Bool
is_at i k u = (u.message.addressee == i) && is_key k (key_of u.message)

abbrev pub entry_in : ℕ → Key → List Under → Option (List (Option (List ℕ)))
entry_in i k [] = None
entry_in i k (u ∷ us) = if is_at i k u then entry_of u.cells else entry_in i k us

-- its pieces are those of its bytes, and not all of them came
abbrev pub IsUnder : Under → Type 0
IsUnder u = (parts_of u.cells ≡ cut (load_of u.message.kind)) × (left_of u ≢ [])

-- These messages are under way, where such pieces stand in boxes and nodes have gathered so: each piece of each of them
-- is in a box or gathered at its addressee, once, and nothing else is there.
pub record IsFlight (us : List Under) (boxes : List Piece) (gathered : ℕ → PartsGathered) : Type 0 where
  pub boxed : Moves (lefts us) boxes
  pub each : AllByRecursion IsUnder us
  pub came : (i : ℕ) (k : Key) → gathered i k ≡ entry_in i k us

abbrev pub messages_of : List Under → List Message
messages_of us = map (λ (u : Under). u.message) us
