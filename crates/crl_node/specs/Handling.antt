-- What is ready for a message that comes, and what is seen of a piece that is taken out of the inbox.
use Rattle.std.specs.Prelude.{◌≡◌, ◌≢◌, ◌<◌, ℕ, true, false, List}
use Rattle.std.specs.declared.option.Option.{Option}
use Rattle.std.specs.declared.option.Option.TheVariants.{None, Some}
use Rattle.crl_model.specs.declared.name.Name.{Name}
use Rattle.crl_model.specs.declared.message.Kind.{Kind}
use Rattle.crl_model.specs.declared.message.Kind.TheVariants as kind
use Rattle.crl_model.specs.declared.collective.Part.{Part}
use Rattle.crl_model.specs.declared.collective.Fold.{Fold}
use Rattle.crl_pieces.specs.Pieces.{count, is_missing, is_complete}
use Rattle.crl_pieces.specs.Gathering.{Gathering}
use Rattle.crl_protocol.specs.Parcels.{Piece, Key, key_of, slots_or}
use Rattle.crl_protocol.specs.Places.{Taken}
use Rattle.crl_protocol.specs.Receiving.{receives, size_for, slots_with}
use Rattle.crl_protocol.specs.Node.{Node}
use Rattle.crl_protocol.specs.Handlers.{node_handles}
use Rattle.crl_safety.specs.Safety.{MessageIsSafe}
use Rattle.crl_parcels.specs.ParcelsState.{parcels_of, sizes_of}
use Rattle.crl_parcels.specs.PieceComes.{IsReadyFor, IsOfSize}
use Rattle.crl_desk.specs.declared.desk.Desk.{Desk}
use Rattle.crl_desk.specs.Desks.{state, HasRoom}
use Rattle.crl_desk.specs.Kits.{IsSectionReady}
use Rattle.crl_copying.specs.Calling.{remote_size_at}
use Rattle.crl_naming.specs.Forgetting.{PurgeIsReady}
use Rattle.crl_naming.specs.Readied.{InfoIsReady}
use Rattle.crl_meeting.specs.Meetings.{IsPartReady, IsResultReady}
use Rattle.crl_parcels.specs.ParcelKeys.{key_of_parcel}
use Rattle.crl_node.specs.declared.kits.PartKit.{PartKit}
use Rattle.crl_node.specs.declared.kits.PieceKit.{PieceKit}
use Rattle.crl_node.specs.declared.kits.PieceKit.TheVariants.{Whole, Last, More}
use Rattle.crl_node.specs.declared.kits.HandleKit.{HandleKit}
use Rattle.crl_node.specs.declared.kits.HandleKit.TheVariants.{Room, Section, Sheets, Papers, Paper}

-- a section of the region may open with this kit
abbrev pub OpensWith : Name → HandleKit → Desk → Type 0
OpensWith name Room d = ⊥
OpensWith name (Section kit) d = IsSectionReady name kit d
OpensWith name (Sheets sheets) d = ⊥
OpensWith name (Papers papers) d = ⊥
OpensWith name (Paper paper) d = ⊥

-- the region's copy may go back with this kit
abbrev pub GoesBackWith : Name → HandleKit → Desk → Type 0
GoesBackWith name Room d = ⊥
GoesBackWith name (Section kit) d = ⊥
GoesBackWith name (Sheets sheets) d = (sheets ≡ remote_size_at name (state d)) × HasRoom (count sheets) 0 1 d
GoesBackWith name (Papers papers) d = ⊥
GoesBackWith name (Paper paper) d = ⊥

-- the region may be purged with this kit
abbrev pub PurgesWith : Name → HandleKit → Desk → Type 0
PurgesWith name Room d = ⊥
PurgesWith name (Section kit) d = ⊥
PurgesWith name (Sheets sheets) d = PurgeIsReady name sheets d
PurgesWith name (Papers papers) d = ⊥
PurgesWith name (Paper paper) d = ⊥

-- this part of a node's may come with this kit
abbrev pub GathersWith : ℕ → Part → HandleKit → Desk → Type 0
GathersWith from part Room d = ⊥
GathersWith from part (Section kit) d = ⊥
GathersWith from part (Sheets sheets) d = ⊥
GathersWith from part (Papers papers) d = IsPartReady from part papers d
GathersWith from part (Paper paper) d = ⊥

-- this result may come with this kit
abbrev pub EndsRoundWith : Fold → HandleKit → Desk → Type 0
EndsRoundWith fold Room d = ⊥
EndsRoundWith fold (Section kit) d = ⊥
EndsRoundWith fold (Sheets sheets) d = ⊥
EndsRoundWith fold (Papers papers) d = ⊥
EndsRoundWith fold (Paper paper) d = IsResultReady fold paper d

-- a message of this kind may come from this node, with this kit
abbrev pub IsReadyToHear : ℕ → Kind → HandleKit → Desk → Type 0
IsReadyToHear from (kind.InfoAsk name) kit d = HasRoom 1 1 1 d
IsReadyToHear from (kind.InfoIs name told) kit d = InfoIsReady name d
IsReadyToHear from (kind.Ask name write have) kit d = OpensWith name kit d
IsReadyToHear from (kind.Grant name version granted) kit d = OpensWith name kit d
IsReadyToHear from (kind.Recall name version) kit d = GoesBackWith name kit d
IsReadyToHear from (kind.Return name version bytes) kit d = OpensWith name kit d
IsReadyToHear from (kind.DeleteAsk name) kit d = HasRoom 64 2 1 d
IsReadyToHear from (kind.DeleteIs name told) kit d = HasRoom 0 0 1 d
IsReadyToHear from (kind.Purge name) kit d = PurgesWith name kit d
IsReadyToHear from (kind.Purged name) kit d = HasRoom 1 1 1 d
IsReadyToHear from (kind.Come round part) kit d = GathersWith from part kit d
IsReadyToHear from (kind.Result round fold) kit d = EndsRoundWith fold kit d
IsReadyToHear from (kind.Yield name version) kit d = GoesBackWith name kit d
IsReadyToHear from (kind.Release name version bytes) kit d = OpensWith name kit d

-- the piece that is taken out
abbrev pub piece_taken : Option (Taken Piece) → Option Piece
piece_taken None = None
piece_taken (Some t) = Some t.taken

abbrev pub IsReadyToTake : Option Piece → HandleKit → Desk → Type 0
IsReadyToTake None kit d = ⊥
IsReadyToTake (Some p) kit d = IsReadyToHear p.message.sender p.message.kind kit d

-- the key of the message whose piece is taken out
abbrev pub key_taken : Option Piece → Option Key
key_taken None = None
key_taken (Some p) = key_of p.message

-- A piece of the message with this key, of so many bytes, may come: the node knows the size, and has the blank if this is the
-- first piece.
pub record IsReadyToGather (key : Key) (size : ℕ) (blank : Option Gathering) (d : Desk) : Type 0 where
  pub known : size_for key.load key.name (state d) ≡ Some size
  pub agrees : IsOfSize size (sizes_of d.parcels key)
  pub ready : IsReadyFor size (parcels_of d.parcels key) blank d.parcels.room

-- A piece below this number, other than this one, is missing among the slots; and none is.
pub record MissesAnother (index number : ℕ) (slots : List (Option (List ℕ))) : Type 0 where
  pub other : ℕ
  pub below : other < number
  pub apart : other ≢ index
  pub missing : is_missing other slots ≡ true

abbrev pub MissesNoOther : ℕ → ℕ → List (Option (List ℕ)) → Type 0
MissesNoOther index number slots = (other : ℕ) → other < number → other ≢ index → is_missing other slots ≡ false

-- a piece of the message with this key is still missing once this one has come
abbrev pub LeavesOpen : Node → Key → Option Piece → Type 0
LeavesOpen n key None = ⊥
LeavesOpen n key (Some p) = is_complete (slots_with p (n.parcels key)) ≡ false

-- it is the only one that is missing
abbrev pub IsLast : Node → Key → Option Piece → Type 0
IsLast n key None = ⊥
IsLast n key (Some p) = MissesNoOther p.index p.pieces (slots_or p.pieces (n.parcels key))

-- The piece is a whole message, which is safe: the node hears it at once.
pub record IsWhole (n : Node) (p : Piece) : Type 0 where
  pub heard : (inbox : List Piece) → receives p (record n { inbox = inbox }) ≡ node_handles p.message.sender p.message.kind (record n { inbox = inbox })
  pub safe : MessageIsSafe n p.message.sender p.message.kind

abbrev pub IsWholeTaken : Node → Option Piece → Type 0
IsWholeTaken n None = ⊥
IsWholeTaken n (Some p) = IsWhole n p

-- The piece is one of a message that is gathered, and may come with this kit.
abbrev pub JoinsWith : Option Piece → PartKit → Desk → Type 0
JoinsWith o part d = (key_taken o ≡ Some (key_of_parcel part.key)) × IsReadyToGather (key_of_parcel part.key) part.size part.blank d

-- The piece is ready to be handled: as a whole message, as the last missing piece of one, or as one of which others are missing.
abbrev pub IsPieceReady : Option Piece → PieceKit → Desk → Type 0
IsPieceReady o (Whole message) d = IsWholeTaken (state d) o × IsReadyToTake o message d
IsPieceReady o (Last part message) d = JoinsWith o part d × IsLast (state d) (key_of_parcel part.key) o × IsReadyToTake o message d
IsPieceReady o (More part) d = JoinsWith o part d × LeavesOpen (state d) (key_of_parcel part.key) o × HasRoom 0 0 1 d
