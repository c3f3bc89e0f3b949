-- What a piece that comes does to what is under way: it is a message's only one, or the last that was missing, or it is
-- gathered.
use Rattle.std.specs.Prelude.{◌≡◌, ℕ, ◌==◌, true, false, ◌&&◌, if◌then◌else◌, List, [], ◌++◌, length, map}
use Rattle.std.specs.List.{AllByRecursion}
use Rattle.std.specs.declared.option.Option.{Option}
use Rattle.std.specs.declared.option.Option.TheVariants.{None, Some}
use Rattle.crl_model.specs.declared.message.Message.{Message}
use Rattle.crl_protocol.specs.Places.{Took}
use Rattle.crl_pieces.specs.Pieces.{is_missing, is_complete, joined}
use Rattle.crl_protocol.specs.Parcels.{Piece, load_of, with_load, Key, key_eq, key_of, PartsGathered, slots_or, fits_size, pieces_in}
use Rattle.crl_protocol.specs.Receiving.{slots_with}
use Rattle.crl_flight.specs.Flight.{Moves, Under, posted, is_at, IsFlight, messages_of}

abbrev pub NotAt : ℕ → Key → List Under → Type 0
NotAt i k us = AllByRecursion (λ u. is_at i k u ≡ false) us

-- no two messages with bytes are under way to a node under one key
abbrev pub Alone : List Under → Type 0
Alone us = (u : Under) (others : List Under) → Took u us others → (k : Key) → key_of u.message ≡ Some k → NotAt u.message.addressee k others

abbrev pub put_at : (ℕ → PartsGathered) → ℕ → Key → Option (List (Option (List ℕ))) → ℕ → PartsGathered
put_at gathered i key v j k = if (i == j) && key_eq k key then v else gathered j k

-- the piece is of this message under way, fits its size, and isn't there yet
pub record IsNext (us : List Under) (gathered : ℕ → PartsGathered) (p : Piece) (key : Key) (u : Under) (others : List Under) : Type 0 where
  pub took : Took u us others
  pub of_key : key_of p.message ≡ Some key
  pub of_message : key_of u.message ≡ Some key
  pub sender : p.message.sender ≡ u.message.sender
  pub addressee : p.message.addressee ≡ u.message.addressee
  pub fits : fits_size (length (load_of u.message.kind)) p ≡ true
  pub missing : is_missing p.index (slots_or p.pieces (gathered p.message.addressee key)) ≡ true

pub data PieceComes (us : List Under) (rest : List Piece) (gathered : ℕ → PartsGathered) (p : Piece) : Type 0 where
  plain : (u : Under) (others : List Under) → Took u us others → key_of p.message ≡ None → p.message ≡ u.message → IsFlight others rest gathered → PieceComes us rest gathered p
  last : (key : Key) (u : Under) (others : List Under) → IsNext us gathered p key u others → is_complete (slots_with p (gathered p.message.addressee key)) ≡ true
      → with_load (joined (slots_with p (gathered p.message.addressee key))) p.message.kind ≡ u.message.kind → IsFlight others rest (put_at gathered p.message.addressee key None) → PieceComes us rest gathered p
  gathers : (key : Key) (u : Under) (others after : List Under) → IsNext us gathered p key u others → is_complete (slots_with p (gathered p.message.addressee key)) ≡ false → messages_of after ≡ messages_of us
      → IsFlight after rest (put_at gathered p.message.addressee key (Some (slots_with p (gathered p.message.addressee key)))) → PieceComes us rest gathered p

-- What holds of what is under way afterwards. A posting adds its messages. A carriage changes nothing of it. A piece that
-- comes takes its message out, whole, where it is the last of it; else the messages stay. With no piece in a box nothing
-- is under way.
pub record FlightGoesOn (us : List Under) (boxes : List Piece) (gathered : ℕ → PartsGathered) : Type 0 where
  pub posts : (after : List Piece) (ms : List Message) → Moves (boxes ++ pieces_in ms) after → IsFlight (us ++ map posted ms) after gathered
  pub carries : (after : List Piece) → Moves boxes after → IsFlight us after gathered
  pub comes : (rest : List Piece) (p : Piece) → Alone us → Took p boxes rest → PieceComes us rest gathered p
  pub none : boxes ≡ [] → us ≡ []
