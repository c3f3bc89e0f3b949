-- What is said of the pieces in the boxes of every run: that what stands in their frames fits its field.
use Rattle.std.specs.Prelude.{◌≡◌, ◌≢◌, ℕ, ◌<◌, ◌≤◌, ◌^◌, true, false, List, [], ◌∷◌, length}
use Rattle.std.specs.List.{AllByRecursion}
use Rattle.crl_model.specs.declared.TheConstants.{NODE_LIMIT, REGION_LIMIT}
use Rattle.crl_model.specs.declared.name.Name.{Name}
use Rattle.crl_model.specs.declared.call.Call.{Call}
use Rattle.crl_model.specs.declared.call.Call.TheVariants as call
use Rattle.crl_model.specs.declared.event.Event.{Event}
use Rattle.crl_model.specs.declared.event.Event.TheVariants as event
use Rattle.crl_model.specs.declared.message.Told.TheVariants as told
use Rattle.crl_model.specs.declared.message.Message.{Message}
use Rattle.crl_model.specs.declared.message.Kind.{Kind}
use Rattle.crl_model.specs.declared.message.Kind.TheVariants as kind
use Rattle.std.specs.declared.option.Option.TheVariants.{None, Some}
use Rattle.crl_pieces.specs.Pieces.{count, piece_size}
use Rattle.crl_protocol.specs.Parcels.{Piece, Key, load_of, key_of}
use Rattle.crl_protocol.specs.World.{world_of, pieces_in_boxes, IsRun}

-- a version or the number of a round: from 1, and within a word
abbrev pub FitsWord : ℕ → Type 0
FitsWord number = (1 ≤ number) × (number < 2 ^ 64)

-- An ask to read names no version, and one to write any that fits a word. Each other version, and each round, is from 1.
abbrev pub FitsNumber : Kind → Type 0
FitsNumber (kind.Ask name true have) = have < 2 ^ 64
FitsNumber (kind.Ask name false have) = have ≡ 0
FitsNumber (kind.Grant name version granted) = FitsWord version
FitsNumber (kind.Recall name version) = FitsWord version
FitsNumber (kind.Yield name version) = FitsWord version
FitsNumber (kind.Return name version bytes) = FitsWord version
FitsNumber (kind.Release name version bytes) = FitsWord version
FitsNumber (kind.Come round part) = FitsWord round
FitsNumber (kind.Result round fold) = FitsWord round
FitsNumber _ = Unit {0}

-- two nodes that differ
pub record FitsEnds (m : Message) : Type 0 where
  pub sender : m.sender < NODE_LIMIT
  pub addressee : m.addressee < NODE_LIMIT
  pub other : m.sender ≢ m.addressee

-- the home of the name is the end that the kind says, the parts of rounds go to node 0, and results come from it
abbrev pub FitsHome : ℕ → ℕ → Kind → Type 0
FitsHome from to (kind.InfoAsk name) = name.home ≡ to
FitsHome from to (kind.InfoIs name told) = name.home ≡ from
FitsHome from to (kind.Ask name write have) = name.home ≡ to
FitsHome from to (kind.Grant name version granted) = name.home ≡ from
FitsHome from to (kind.Recall name version) = name.home ≡ from
FitsHome from to (kind.Yield name version) = name.home ≡ from
FitsHome from to (kind.Return name version bytes) = name.home ≡ to
FitsHome from to (kind.Release name version bytes) = name.home ≡ to
FitsHome from to (kind.DeleteAsk name) = name.home ≡ to
FitsHome from to (kind.DeleteIs name told) = name.home ≡ from
FitsHome from to (kind.Purge name) = name.home ≡ from
FitsHome from to (kind.Purged name) = name.home ≡ to
FitsHome from to (kind.Come round part) = to ≡ 0
FitsHome from to (kind.Result round fold) = from ≡ 0

-- The statements, of each piece in a box after a run of so many nodes.
abbrev pub InEachBox : (Message → Type 0) → Type 0
InEachBox Holds = (count capacity : ℕ) (run : List Event) → IsRun count capacity run → AllByRecursion (λ (p : Piece). Holds p.message) (pieces_in_boxes (world_of count capacity run))

abbrev pub InBoxesOfFew : (Message → Type 0) → Type 0
InBoxesOfFew Holds = (count capacity : ℕ) (run : List Event) → count ≤ NODE_LIMIT → IsRun count capacity run → AllByRecursion (λ (p : Piece). Holds p.message) (pieces_in_boxes (world_of count capacity run))

abbrev pub NumberFits : Message → Type 0
NumberFits m = FitsNumber m.kind

abbrev pub HomeIsAnEnd : Message → Type 0
HomeIsAnEnd m = FitsHome m.sender m.addressee m.kind

-- a region has so many bytes
abbrev pub IsRegionSize : ℕ → Type 0
IsRegionSize size = (1 ≤ size) × (size ≤ REGION_LIMIT)

-- a size that is told is that of a region
abbrev pub FitsSize : Kind → Type 0
FitsSize (kind.InfoIs name (told.Live size)) = IsRegionSize size
FitsSize _ = Unit {0}

abbrev pub SizeFits : Message → Type 0
SizeFits m = FitsSize m.kind

-- The piece is one of those into which a message with so many bytes is cut.
pub record IsPieceOf (size : ℕ) (p : Piece) : Type 0 where
  pub pieces : p.pieces ≡ count size
  pub index : p.index < p.pieces
  pub bytes : length (load_of p.message.kind) ≡ piece_size size p.index

-- the size is that of the message's bytes: of a region, or 0 where it has none that travel in pieces
pub record PieceIsPlaced (p : Piece) : Type 0 where
  pub size : ℕ
  pub is : IsPieceOf size p
  pub none : key_of p.message ≡ None → size ≡ 0
  pub some : (key : Key) → key_of p.message ≡ Some key → IsRegionSize size

abbrev pub PiecesInEachBox : (Piece → Type 0) → Type 0
PiecesInEachBox Holds = (count capacity : ℕ) (run : List Event) → IsRun count capacity run → AllByRecursion Holds (pieces_in_boxes (world_of count capacity run))

-- Calls as their types have them: serials and sizes within 32 bits.
abbrev pub IsTypedName : Name → Type 0
IsTypedName name = name.serial < 2 ^ 32

abbrev pub IsTypedCall : Call → Type 0
IsTypedCall (call.Create size) = size < 2 ^ 32
IsTypedCall (call.Delete name) = IsTypedName name
IsTypedCall (call.Map name) = IsTypedName name
IsTypedCall (call.Unmap name) = IsTypedName name
IsTypedCall (call.StartRead name) = IsTypedName name
IsTypedCall (call.EndRead name) = IsTypedName name
IsTypedCall (call.StartWrite name) = IsTypedName name
IsTypedCall (call.EndWrite name after) = IsTypedName name
IsTypedCall (call.Put name offset len) = IsTypedName name × (offset < 2 ^ 32) × (len < 2 ^ 32)
IsTypedCall (call.Add name offset) = IsTypedName name × (offset < 2 ^ 32)
IsTypedCall (call.Flush name) = IsTypedName name
IsTypedCall (call.Come part) = Unit {0}

abbrev pub AreTyped : List Event → Type 0
AreTyped [] = Unit {0}
AreTyped (event.Call i c ∷ es) = IsTypedCall c × AreTyped es
AreTyped (_ ∷ es) = AreTyped es

-- the serial of a name, from 1
abbrev pub IsSerial : ℕ → Type 0
IsSerial serial = (1 ≤ serial) × (serial < 2 ^ 32)

-- of the serial of the name, where there is one
abbrev pub OfSerial : (ℕ → Type 0) → Kind → Type 0
OfSerial Holds (kind.InfoAsk name) = Holds name.serial
OfSerial Holds (kind.InfoIs name told) = Holds name.serial
OfSerial Holds (kind.Ask name write have) = Holds name.serial
OfSerial Holds (kind.Grant name version granted) = Holds name.serial
OfSerial Holds (kind.Recall name version) = Holds name.serial
OfSerial Holds (kind.Yield name version) = Holds name.serial
OfSerial Holds (kind.Return name version bytes) = Holds name.serial
OfSerial Holds (kind.Release name version bytes) = Holds name.serial
OfSerial Holds (kind.DeleteAsk name) = Holds name.serial
OfSerial Holds (kind.DeleteIs name told) = Holds name.serial
OfSerial Holds (kind.Purge name) = Holds name.serial
OfSerial Holds (kind.Purged name) = Holds name.serial
OfSerial Holds (kind.Come round part) = Unit {0}
OfSerial Holds (kind.Result round fold) = Unit {0}

abbrev pub FitsSerial : Kind → Type 0
FitsSerial k = OfSerial IsSerial k

abbrev pub SerialIsReal : Message → Type 0
SerialIsReal m = OfSerial (λ serial. 1 ≤ serial) m.kind

abbrev pub SerialFits : Message → Type 0
SerialFits m = FitsSerial m.kind

abbrev pub InBoxesOfTypedRuns : (Message → Type 0) → Type 0
InBoxesOfTypedRuns Holds = (count capacity : ℕ) (run : List Event) → IsRun count capacity run → AreTyped run → AllByRecursion (λ (p : Piece). Holds p.message) (pieces_in_boxes (world_of count capacity run))
