-- A piece comes of a message of which some are missing.
use Rattle.std.specs.Prelude.{◌≡◌, ⊤, ℕ, ◌<◌, if◌then◌else◌, List, length, remove, slice_index_or}
use Rattle.std.specs.declared.option.Option.{Option}
use Rattle.std.specs.declared.option.Option.TheVariants.{None, Some}
use Rattle.crl_pieces.specs.Pieces.{count, nothing_came, with_piece, is_complete, joined}
use Rattle.crl_pieces.specs.Gathering.{Gathering}
use Rattle.crl_protocol.specs.Parcels.{Key, key_eq, slots_or}
use Rattle.crl_parcels.specs.declared.key.ParcelKey.{ParcelKey}
use Rattle.crl_parcels.specs.declared.parcel.Parcel.{Parcel}
use Rattle.crl_parcels.specs.ParcelKeys.{key_of_parcel}
use Rattle.crl_parcels.specs.ParcelsState.{ParcelsState, parcels_of, gathering_in, AreApart}

-- what came of the message is of this size, if any of it came
abbrev pub IsOfSize : ℕ → Option ℕ → Type 0
IsOfSize size None = ⊤
IsOfSize size (Some known) = known ≡ size

-- if nothing came of the message, there is room for it, and the blank for its bytes
abbrev pub IsReadyFor : ℕ → Option (List (Option (List ℕ))) → Option Gathering → ℕ → Type 0
IsReadyFor size None blank room = (blank ≡ Some (record { size = size; slots = nothing_came (count size) })) × (0 < room)
IsReadyFor size (Some slots) blank room = ⊤

-- the slots of the message with the piece
abbrev pub slots_after : ParcelKey → ℕ → List ℕ → ℕ → ParcelsState → List (Option (List ℕ))
slots_after key index part size s = with_piece index part (slots_or (count size) (parcels_of s (key_of_parcel key)))

-- the whole, if no piece is missing
abbrev pub whole_of : List (Option (List ℕ)) → Option (List ℕ)
whole_of slots = if is_complete slots then Some (joined slots) else None

-- what is kept of the message: nothing, if no piece is missing
abbrev pub kept_of : List (Option (List ℕ)) → Option (List (Option (List ℕ)))
kept_of slots = if is_complete slots then None else Some slots

abbrev pub size_kept : ℕ → List (Option (List ℕ)) → Option ℕ
size_kept size slots = if is_complete slots then None else Some size

abbrev pub gathering_kept : ℕ → List (Option (List ℕ)) → Option Gathering
gathering_kept size slots = if is_complete slots then None else Some (record { size = size; slots = slots })

-- the sizes, but this one at the key
abbrev pub size_at_key : (Key → Option ℕ) → Key → Option ℕ → Key → Option ℕ
size_at_key sizes key size k = if key_eq k key then size else sizes k

-- what came is the same but at the key
abbrev pub IsChangedAt : Key → Option Gathering → List Parcel → List Parcel → Type 0
IsChangedAt key g old new = (k : Key) → gathering_in k new ≡ (if key_eq k key then g else gathering_in k old)

-- the message with this key stands at this place
pub record IsFoundAt (key : Key) (list : List Parcel) (place : ℕ) : Type 0 where
  pub within : place < length list
  pub value : (d : Parcel) → gathering_in key list ≡ Some (slice_index_or list place d).gather
  pub rest : AreApart list → IsChangedAt key None list (remove list place)
