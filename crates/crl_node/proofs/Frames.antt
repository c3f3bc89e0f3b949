-- What is ready, and what is safe, reads neither the inbox nor the pieces that came of messages of which some are missing.
use Rattle.std.proofs.Common.{◌≡◌, ◌∙◌, refl, sym, ap, ℕ, List}
use Rattle.std.specs.declared.option.Option.{Option}
use Rattle.std.specs.declared.option.Option.TheVariants.{None, Some}
use Rattle.crl_model.specs.declared.name.Name.{Name}
use Rattle.crl_model.specs.declared.message.Kind.{Kind}
use Rattle.crl_model.specs.declared.message.Kind.TheVariants as kind
use Rattle.crl_model.specs.declared.collective.Part.{Part}
use Rattle.crl_model.specs.declared.collective.Fold.{Fold}
use Rattle.crl_outbox.specs.MailboxState.{MailboxState}
use Rattle.crl_protocol.specs.Home.{Home}
use Rattle.crl_protocol.specs.Remote.{Remote}
use Rattle.crl_protocol.specs.Sections.{OpenSection}
use Rattle.crl_protocol.specs.Node.{Node}
use Rattle.crl_protocol.specs.Lifetimes.{Mapping}
use Rattle.crl_protocol.specs.Receiving.{size_for}
use Rattle.crl_protocol.specs.Parcels.{Piece, PartsGathered, Load, OfGrant, OfReturn, OfRelease}
use Rattle.crl_parcels.specs.ParcelsState.{ParcelsState, parcels_of}
use Rattle.crl_safety.specs.Safety.{IsSafe, HomeIsSafe, RemoteIsSafe, BytesAreSafe, MessageIsSafe, PieceIsSafe}
use Rattle.crl_desk.specs.declared.desk.Desk.{Desk}
use Rattle.crl_desk.specs.Desks.{HasRoom, state}
use Rattle.crl_table.specs.Tables.{table_of}
use Rattle.crl_naming.specs.Forgetting.{purged_name, forgotten_size}
use Rattle.crl_naming.specs.Readied.{InfoIsReady}
use Rattle.crl_node.specs.declared.kits.HandleKit.{HandleKit}
use Rattle.crl_node.specs.declared.kits.HandleKit.TheVariants.{Room, Section, Sheets, Papers, Paper}
use Rattle.crl_node.specs.declared.kits.PartKit.{PartKit}
use Rattle.crl_node.specs.declared.kits.PieceKit.{PieceKit}
use Rattle.crl_node.specs.declared.kits.PieceKit.TheVariants.{Whole, Last, More}
use Rattle.crl_node.specs.Handling.{OpensWith, GoesBackWith, PurgesWith, GathersWith, EndsRoundWith, IsReadyToHear, JoinsWith, IsPieceReady}

-- ---- what is read of a node

module _ (n : Node) (inbox : List Piece) (parcels : PartsGathered) where
  purged_frame : (name : Name) (o : Option Mapping) → purged_name name o (record n { inbox = inbox; parcels = parcels }) ≡ purged_name name o n
  purged_frame name None = refl
  purged_frame name (Some m) = refl

  forgotten_frame : (o : Option Name) → forgotten_size o (record n { inbox = inbox; parcels = parcels }) ≡ forgotten_size o n
  forgotten_frame None = refl
  forgotten_frame (Some name) = refl

  purge_size_frame : (name : Name) (o : Option Mapping)
      → forgotten_size (purged_name name o (record n { inbox = inbox; parcels = parcels })) (record n { inbox = inbox; parcels = parcels }) ≡ forgotten_size (purged_name name o n) n
  purge_size_frame name o =
      forgotten_frame (purged_name name o (record n { inbox = inbox; parcels = parcels })) ∙ ap (λ (f : Option Name). forgotten_size f n) (purged_frame name o)

  pub size_frame : (load : Load) (name : Name) → size_for load name (record n { inbox = inbox; parcels = parcels }) ≡ size_for load name n
  size_frame OfGrant name = refl
  size_frame OfReturn name = refl
  size_frame OfRelease name = refl

-- ---- what is ready

module _ (d : Desk) (inbox : MailboxState) (parcels : ParcelsState) where
  pub room_frame : (pieces records notes : ℕ) → HasRoom pieces records notes d → HasRoom pieces records notes (record d { inbox = inbox; parcels = parcels })
  room_frame pieces records notes h = record {
    parts = record {
      few = h.parts.few;
      below = h.parts.below;
      home = h.parts.home;
      home_nodes = h.parts.home_nodes;
      remote = h.parts.remote;
      stage_nodes = h.parts.stage_nodes;
      round_nodes = h.parts.round_nodes;
      serials = h.parts.serials;
    };
    for_pieces = h.for_pieces;
    for_records = h.for_records;
    for_notes = h.for_notes;
  }

  opens_frame : (name : Name) (kit : HandleKit) → OpensWith name kit d → OpensWith name kit (record d { inbox = inbox; parcels = parcels })
  opens_frame name Room h = h
  opens_frame name (Section kit) h = record { room = room_frame _ _ _ h.room; place = h.place; papers = h.papers }
  opens_frame name (Sheets sheets) h = h
  opens_frame name (Papers papers) h = h
  opens_frame name (Paper paper) h = h

  goes_back_frame : (name : Name) (kit : HandleKit) → GoesBackWith name kit d → GoesBackWith name kit (record d { inbox = inbox; parcels = parcels })
  goes_back_frame name Room h = h
  goes_back_frame name (Section kit) h = h
  goes_back_frame name (Sheets sheets) h = (h.0, room_frame _ _ _ h.1)
  goes_back_frame name (Papers papers) h = h
  goes_back_frame name (Paper paper) h = h

  purges_frame : (name : Name) (kit : HandleKit) → PurgesWith name kit d → PurgesWith name kit (record d { inbox = inbox; parcels = parcels })
  purges_frame name Room h = h
  purges_frame name (Section kit) h = h
  purges_frame name (Sheets sheets) h = record { sized = h.sized ∙ sym (purge_size_frame (state d) inbox.list (parcels_of parcels) name (table_of d.maps name)); room = room_frame _ _ _ h.room }
  purges_frame name (Papers papers) h = h
  purges_frame name (Paper paper) h = h

  gathers_frame : (from : ℕ) (part : Part) (kit : HandleKit) → GathersWith from part kit d → GathersWith from part kit (record d { inbox = inbox; parcels = parcels })
  gathers_frame from part Room h = h
  gathers_frame from part (Section kit) h = h
  gathers_frame from part (Sheets sheets) h = h
  gathers_frame from part (Papers papers) h = record { room = room_frame _ _ _ h.room; folds = h.folds }
  gathers_frame from part (Paper paper) h = h

  ends_frame : (fold : Fold) (kit : HandleKit) → EndsRoundWith fold kit d → EndsRoundWith fold kit (record d { inbox = inbox; parcels = parcels })
  ends_frame fold Room h = h
  ends_frame fold (Section kit) h = h
  ends_frame fold (Sheets sheets) h = h
  ends_frame fold (Papers papers) h = h
  ends_frame fold (Paper paper) h = record { room = room_frame _ _ _ h.room; fits = h.fits }

  info_frame : (name : Name) → InfoIsReady name d → InfoIsReady name (record d { inbox = inbox; parcels = parcels })
  info_frame name h = record { map_place = h.map_place; remote_place = h.remote_place; room = room_frame _ _ _ h.room }

  pub hear_frame : (from : ℕ) (k : Kind) (kit : HandleKit) → IsReadyToHear from k kit d → IsReadyToHear from k kit (record d { inbox = inbox; parcels = parcels })
  hear_frame from (kind.InfoAsk name) kit h = room_frame _ _ _ h
  hear_frame from (kind.InfoIs name told) kit h = info_frame name h
  hear_frame from (kind.Ask name write have) kit h = opens_frame name kit h
  hear_frame from (kind.Grant name version granted) kit h = opens_frame name kit h
  hear_frame from (kind.Recall name version) kit h = goes_back_frame name kit h
  hear_frame from (kind.Return name version bytes) kit h = opens_frame name kit h
  hear_frame from (kind.DeleteAsk name) kit h = room_frame _ _ _ h
  hear_frame from (kind.DeleteIs name told) kit h = room_frame _ _ _ h
  hear_frame from (kind.Purge name) kit h = purges_frame name kit h
  hear_frame from (kind.Purged name) kit h = room_frame _ _ _ h
  hear_frame from (kind.Come round part) kit h = gathers_frame from part kit h
  hear_frame from (kind.Result round fold) kit h = ends_frame fold kit h
  hear_frame from (kind.Yield name version) kit h = goes_back_frame name kit h
  hear_frame from (kind.Release name version bytes) kit h = opens_frame name kit h

-- ---- what is safe

module _ (n : Node) (inbox : List Piece) (parcels : PartsGathered) where
  home_frame : (name : Name) (h : Home) → HomeIsSafe n name h → HomeIsSafe (record n { inbox = inbox; parcels = parcels }) name h
  home_frame name h s = record { versions = s.versions; room = s.room; listed = s.listed; sections = s.sections; own_ask = s.own_ask; free = s.free }

  remote_frame : (name : Name) (r : Remote) → RemoteIsSafe n name r → RemoteIsSafe (record n { inbox = inbox; parcels = parcels }) name r
  remote_frame name r s = record { sections = s.sections; closed = s.closed }

  bytes_frame : (name : Name) (o : OpenSection) → BytesAreSafe n name o → BytesAreSafe (record n { inbox = inbox; parcels = parcels }) name o
  bytes_frame name o s = record { home = s.home; remote = s.remote }

  pub safe_frame : IsSafe n → IsSafe (record n { inbox = inbox; parcels = parcels })
  safe_frame s = record {
    home = λ name h e. home_frame name h (s.home name h e);
    remote = λ name r mine e. remote_frame name r (s.remote name r mine e);
    own = s.own;
    bytes = λ name o e. bytes_frame name o (s.bytes name o e);
    section_numbers = s.section_numbers;
    rounds = s.rounds;
    gathering = s.gathering;
  }

  pub message_frame : (from : ℕ) (k : Kind) → MessageIsSafe n from k → MessageIsSafe (record n { inbox = inbox; parcels = parcels }) from k
  message_frame from (kind.InfoAsk name) h = h
  message_frame from (kind.InfoIs name told) h = h
  message_frame from (kind.Ask name write have) h = h
  message_frame from (kind.Grant name version granted) h = h
  message_frame from (kind.Recall name version) h = h
  message_frame from (kind.Return name version bytes) h = h
  message_frame from (kind.DeleteAsk name) h = h
  message_frame from (kind.DeleteIs name told) h = h
  message_frame from (kind.Purge name) h = h
  message_frame from (kind.Purged name) h = h
  message_frame from (kind.Come round part) h = h
  message_frame from (kind.Result round fold) h = h
  message_frame from (kind.Yield name version) h = h
  message_frame from (kind.Release name version bytes) h = h

-- a piece that was taken out of the inbox
pub piece_frame : (n : Node) (inbox : List Piece) (p : Piece) → PieceIsSafe n p → PieceIsSafe (record n { inbox = inbox }) p
piece_frame n inbox p s = record {
  sender = s.sender;
  other = s.other;
  whole = λ e. message_frame n inbox n.parcels _ _ (s.whole e);
  part = λ key e. let f = s.part key e in record { size = f.size; known = size_frame n inbox n.parcels key.load key.name ∙ f.known; fits = f.fits; missing = f.missing };
  last = λ key e full. message_frame n inbox n.parcels _ _ (s.last key e full);
}

-- ---- a piece that is ready, when it is out of the inbox

joins_frame : (p : Piece) (part : PartKit) (d : Desk) (inbox : MailboxState) → JoinsWith (Some p) part d → JoinsWith (Some p) part (record d { inbox = inbox })
joins_frame p part d inbox h =
    (h.0, record { known = size_frame (state d) inbox.list (state d).parcels _ _ ∙ h.1.known; agrees = h.1.agrees; ready = h.1.ready })

pub ready_frame : (p : Piece) (kit : PieceKit) (d : Desk) (inbox : MailboxState) → IsPieceReady (Some p) kit d → IsPieceReady (Some p) kit (record d { inbox = inbox })
ready_frame p (Whole message) d inbox h =
    (record { heard = h.0.heard; safe = message_frame (state d) inbox.list (state d).parcels _ _ h.0.safe }, hear_frame d inbox d.parcels p.message.sender p.message.kind message h.1)
ready_frame p (Last part message) d inbox h =
    (joins_frame p part d inbox h.0, h.1, hear_frame d inbox d.parcels p.message.sender p.message.kind message h.2)
ready_frame p (More part) d inbox h = (joins_frame p part d inbox h.0, h.1, room_frame d inbox d.parcels 0 0 1 h.2)
