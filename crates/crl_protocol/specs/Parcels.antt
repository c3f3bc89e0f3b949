-- Messages and their pieces. What is in the boxes of nodes are pieces; a message without bytes is one piece.
use Rattle.std.specs.Prelude.{ℕ, ◌==◌, Bool, true, false, ◌&&◌, if◌then◌else◌, List, [], ◌∷◌, ◌++◌, length}
use Rattle.std.specs.declared.option.Option.{Option}
use Rattle.std.specs.declared.option.Option.TheVariants.{None, Some}
pub use Rattle.crl_model.specs.declared.piece.Piece.{Piece}
use Rattle.crl_model.specs.declared.name.Name.{Name}
use Rattle.crl_model.specs.declared.message.Granted.{Granted}
use Rattle.crl_model.specs.declared.message.Granted.TheVariants.{Shared, Exclusive, Upgrade}
use Rattle.crl_model.specs.declared.message.Message.{Message}
use Rattle.crl_model.specs.declared.message.Kind.{Kind}
use Rattle.crl_model.specs.declared.message.Kind.TheVariants as kind
use Rattle.crl_model.specs.Names.{name_eq}
use Rattle.crl_pieces.specs.Pieces.{count, piece_size, cut, fresh, left_from, nothing_came}

-- the bytes that travel in pieces
abbrev pub load_of_grant : Granted → List ℕ
load_of_grant (Shared bytes) = bytes
load_of_grant (Exclusive bytes) = bytes
load_of_grant Upgrade = []

abbrev pub load_of_return : Option (List ℕ) → List ℕ
load_of_return None = []
load_of_return (Some bytes) = bytes

abbrev pub load_of : Kind → List ℕ
load_of (kind.Grant name version granted) = load_of_grant granted
load_of (kind.Return name version bytes) = load_of_return bytes
load_of (kind.Release name version bytes) = bytes
load_of _ = []

-- the same with other bytes
abbrev pub grant_with : List ℕ → Granted → Granted
grant_with part (Shared bytes) = Shared part
grant_with part (Exclusive bytes) = Exclusive part
grant_with part Upgrade = Upgrade

abbrev pub return_with : List ℕ → Option (List ℕ) → Option (List ℕ)
return_with part None = None
return_with part (Some bytes) = Some part

abbrev pub with_load : List ℕ → Kind → Kind
with_load part (kind.Grant name version granted) = kind.Grant name version (grant_with part granted)
with_load part (kind.Return name version bytes) = kind.Return name version (return_with part bytes)
with_load part (kind.Release name version bytes) = kind.Release name version part
with_load part k = k

abbrev pub piece_of : Message → ℕ → ℕ → List ℕ → Piece
piece_of m n index part = record { message = record m { kind = with_load part m.kind }; pieces = n; index = index }

abbrev pub pieces_of : Message → List Piece
pieces_of m = left_from (piece_of m (count (length (load_of m.kind)))) 0 (fresh (cut (load_of m.kind)))

abbrev pub pieces_in : List Message → List Piece
pieces_in [] = []
pieces_in (m ∷ ms) = pieces_of m ++ pieces_in ms

-- by what a gathering tells messages with bytes apart
pub data Load : Type 0 where
  OfGrant : Load
  OfReturn : Load
  OfRelease : Load

abbrev pub load_eq : Load → Load → Bool
load_eq OfGrant OfGrant = true
load_eq OfReturn OfReturn = true
load_eq OfRelease OfRelease = true
load_eq _ _ = false

pub record Key : Type 0 where
  pub sender : ℕ
  pub name : Name
  pub load : Load
  pub version : ℕ

abbrev pub key_eq : Key → Key → Bool
key_eq a b = (a.sender == b.sender) && (name_eq a.name b.name && (load_eq a.load b.load && (a.version == b.version)))

abbrev pub key_of_grant : ℕ → Name → ℕ → Granted → Option Key
key_of_grant sender name version (Shared bytes) = Some (record { sender = sender; name = name; load = OfGrant; version = version })
key_of_grant sender name version (Exclusive bytes) = Some (record { sender = sender; name = name; load = OfGrant; version = version })
key_of_grant sender name version Upgrade = None

abbrev pub key_of_return : ℕ → Name → ℕ → Option (List ℕ) → Option Key
key_of_return sender name version None = None
key_of_return sender name version (Some bytes) = Some (record { sender = sender; name = name; load = OfReturn; version = version })

-- none for a message without bytes
abbrev pub key_in : ℕ → Kind → Option Key
key_in sender (kind.Grant name version granted) = key_of_grant sender name version granted
key_in sender (kind.Return name version bytes) = key_of_return sender name version bytes
key_in sender (kind.Release name version bytes) = Some (record { sender = sender; name = name; load = OfRelease; version = version })
key_in sender _ = None

abbrev pub key_of : Message → Option Key
key_of m = key_in m.sender m.kind

-- A node's gathering: the pieces that came, by key.
abbrev pub PartsGathered : Type 0
PartsGathered = Key → Option (List (Option (List ℕ)))

abbrev pub slots_or : ℕ → Option (List (Option (List ℕ))) → List (Option (List ℕ))
slots_or n None = nothing_came n
slots_or n (Some slots) = slots

abbrev pub at_key : PartsGathered → Key → Option (List (Option (List ℕ))) → PartsGathered
at_key g key v k = if key_eq k key then v else g k

-- the piece is one of a region of this size
abbrev pub fits_size : ℕ → Piece → Bool
fits_size size p = (p.pieces == count size) && (length (load_of p.message.kind) == piece_size size p.index)
