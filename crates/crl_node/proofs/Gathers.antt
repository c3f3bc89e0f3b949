-- A piece comes of a message with bytes of a region: what is gathered, and what the node does with the whole.
use Rattle.std.proofs.Common.{◌≡◌, ◌∙◌, ℕ, zero, suc, Bool, true, false, if◌then◌else◌, List, [], ◌∷◌, append-nil, refl, sym, ap, subst, arith, length}
use Rattle.std.specs.Prelude.{◌≢◌, MatchBool}
use Rattle.std.specs.declared.option.Option.{Option}
use Rattle.std.specs.declared.option.Option.TheVariants.{None, Some}
use Rattle.crl_model.specs.declared.name.Name.{Name}
use Rattle.crl_model.specs.declared.message.Kind.{Kind}
use Rattle.crl_model.specs.declared.message.Kind.TheVariants as kind
use Rattle.crl_pieces.specs.Gathering.{Gathering}
use Rattle.crl_pieces.specs.Pieces.{count, piece_size, is_missing, with_piece, is_complete, joined}
use Rattle.crl_protocol.specs.Parcels.{Piece, PartsGathered, Key, key_of, load_of, with_load, slots_or, at_key, fits_size}
use Rattle.crl_protocol.specs.Receiving.{receives, gathers_piece, slots_with, size_for}
use Rattle.crl_protocol.specs.Node.{Node}
use Rattle.crl_protocol.specs.Handlers.{node_handles}
use Rattle.crl_parcels.specs.ParcelsState.{slots_gathered, size_gathered}
use Rattle.crl_parcels.specs.PieceComes.{IsReadyFor, IsOfSize, whole_of, kept_of}
use Rattle.crl_safety.specs.Safety.{MessageIsSafe, PieceIsSafe}
use Rattle.crl_desk.specs.declared.desk.Desk.{Desk}
use Rattle.crl_desk.specs.Desks.{acted, HasRoom}
use Rattle.crl_node.specs.declared.kits.HandleKit.{HandleKit}
use Rattle.crl_node.specs.declared.kits.HandleKit.TheVariants.{Room, Section, Sheets, Papers, Paper}
use Rattle.crl_node.specs.Handling.{OpensWith, IsReadyToHear, MissesAnother, MissesNoOther, LeavesOpen, IsLast}
use Rattle.crl_node.proofs.Frames.{message_frame}

-- ---- what is readied

-- pieces of the message came
pub next_ready : (size known : ℕ) (o : Option Gathering) (blank : Option Gathering) (room : ℕ) → size_gathered o ≡ Some known → IsReadyFor size (slots_gathered o) blank room
next_ready size known None blank room e = absurd (cc)
next_ready size known (Some g) blank room e = tt

-- none came
pub first_size : (size : ℕ) (o : Option Gathering) → size_gathered o ≡ None → IsOfSize size (size_gathered o)
first_size size None e = tt
first_size size (Some g) e = absurd (cc)

-- the same with the message's bytes
pub with_bytes : (from : ℕ) (k : Kind) (bytes : List ℕ) (kit : HandleKit) (d : Desk) → IsReadyToHear from k kit d → IsReadyToHear from (with_load bytes k) kit d
with_bytes from (kind.InfoAsk name) bytes kit d h = h
with_bytes from (kind.InfoIs name told) bytes kit d h = h
with_bytes from (kind.Ask name write have) bytes kit d h = h
with_bytes from (kind.Grant name version granted) bytes kit d h = h
with_bytes from (kind.Recall name version) bytes kit d h = h
with_bytes from (kind.Return name version back) bytes kit d h = h
with_bytes from (kind.DeleteAsk name) bytes kit d h = h
with_bytes from (kind.DeleteIs name told) bytes kit d h = h
with_bytes from (kind.Purge name) bytes kit d h = h
with_bytes from (kind.Purged name) bytes kit d h = h
with_bytes from (kind.Come round part) bytes kit d h = h
with_bytes from (kind.Result round fold) bytes kit d h = h
with_bytes from (kind.Yield name version) bytes kit d h = h
with_bytes from (kind.Release name version back) bytes kit d h = h

-- a place for the note is among what is readied
room_for_note : (d : Desk) (pieces records : ℕ) → HasRoom pieces records 2 d → HasRoom 0 0 1 d
room_for_note d pieces records h = record {
  parts = h.parts;
  for_pieces = (let p = h.for_pieces in omega arith);
  for_records = (let r = h.for_records in omega arith);
  for_notes = (let n = h.for_notes in omega arith);
}

open_has_note : (name : Name) (kit : HandleKit) (d : Desk) → OpensWith name kit d → HasRoom 0 0 1 d
open_has_note name Room d h = absurd h
open_has_note name (Section kit) d h = room_for_note d _ _ h.room
open_has_note name (Sheets sheets) d h = absurd h
open_has_note name (Papers papers) d h = absurd h
open_has_note name (Paper paper) d h = absurd h

pub part_has_note : (from : ℕ) (k : Kind) (key : Key) (kit : HandleKit) (d : Desk) → key_of (record { sender = from; addressee = 0; kind = k }) ≡ Some key
    → IsReadyToHear from k kit d → HasRoom 0 0 1 d
part_has_note from (kind.InfoAsk name) key kit d e h = absurd (cc)
part_has_note from (kind.InfoIs name told) key kit d e h = absurd (cc)
part_has_note from (kind.Ask name write have) key kit d e h = absurd (cc)
part_has_note from (kind.Grant name version granted) key kit d e h = open_has_note name kit d h
part_has_note from (kind.Recall name version) key kit d e h = absurd (cc)
part_has_note from (kind.Return name version bytes) key kit d e h = open_has_note name kit d h
part_has_note from (kind.DeleteAsk name) key kit d e h = absurd (cc)
part_has_note from (kind.DeleteIs name told) key kit d e h = absurd (cc)
part_has_note from (kind.Purge name) key kit d e h = absurd (cc)
part_has_note from (kind.Purged name) key kit d e h = absurd (cc)
part_has_note from (kind.Come round part) key kit d e h = absurd (cc)
part_has_note from (kind.Result round fold) key kit d e h = absurd (cc)
part_has_note from (kind.Yield name version) key kit d e h = absurd (cc)
part_has_note from (kind.Release name version bytes) key kit d e h = open_has_note name kit d h

-- ---- what is gathered

some_same : {x y : ℕ} → Some x ≡ Some y → x ≡ y
some_same e = cc

pub record Fits (n : Node) (p : Piece) (key : Key) (size : ℕ) : Type 0 where
  pub fits : fits_size size p ≡ true
  pub pieces : p.pieces ≡ count size
  pub len : length (load_of p.message.kind) ≡ piece_size size p.index
  pub missing : is_missing p.index (slots_or p.pieces (n.parcels key)) ≡ true

fits_from : (n : Node) (p : Piece) (key : Key) (size : ℕ) → fits_size size p ≡ true → is_missing p.index (slots_or p.pieces (n.parcels key)) ≡ true → Fits n p key size
fits_from n p key size fits missing = record { fits = fits; pieces = grind arith; len = grind arith; missing = missing }

pub part_fits : (n : Node) (p : Piece) (key : Key) (size : ℕ) → PieceIsSafe n p → key_of p.message ≡ Some key → size_for key.load key.name n ≡ Some size → Fits n p key size
part_fits n p key size s e known =
    let f = s.part key e in
    let same : f.size ≡ size = some_same (sym f.known ∙ known) in
    fits_from n p key size (subst (λ (k : ℕ). fits_size k p ≡ true) same f.fits) f.missing

-- as the parcels see it
pub missing_there : (n : Node) (p : Piece) (key : Key) (size : ℕ) → Fits n p key size → is_missing p.index (slots_or (count size) (n.parcels key)) ≡ true
missing_there n p key size f = subst (λ (k : ℕ). is_missing p.index (slots_or k (n.parcels key)) ≡ true) f.pieces f.missing

slots_same : (n : Node) (p : Piece) (key : Key) (size : ℕ) (part : List ℕ) → Fits n p key size → part ≡ load_of p.message.kind
    → with_piece p.index part (slots_or (count size) (n.parcels key)) ≡ slots_with p (n.parcels key)
slots_same n p key size part f part_is = rw part_is (rw f.pieces refl)

whole_some : (b : Bool) (x y : List ℕ) → (if b then Some x else None) ≡ Some y → (b ≡ true) × (x ≡ y)
whole_some true x y e = (refl, cc)
whole_some false x y e = absurd (cc)

whole_none : (b : Bool) (x : List ℕ) → (if b then Some x else None) ≡ None → b ≡ false
whole_none true x e = absurd (cc)
whole_none false x e = refl

pub gathers_if : (n : Node) (p : Piece) (key : Key) (size : ℕ) → key_of p.message ≡ Some key → size_for key.load key.name n ≡ Some size → Fits n p key size
    → receives p n ≡ gathers_piece key p (slots_with p (n.parcels key)) n
gathers_if n p key size e known f = rw e (rw known (rw f.fits (rw f.missing refl)))

-- the piece was the last that was missing
module _ (n : Node) (p : Piece) (key : Key) (size : ℕ) (part bytes : List ℕ) (e : key_of p.message ≡ Some key) (f : Fits n p key size) (part_is : part ≡ load_of p.message.kind)
    (whole : whole_of (with_piece p.index part (slots_or (count size) (n.parcels key))) ≡ Some bytes) where
  last_whole : whole_of (slots_with p (n.parcels key)) ≡ Some bytes
  last_whole = ap whole_of (sym (slots_same n p key size part f part_is)) ∙ whole

  last_came : (is_complete (slots_with p (n.parcels key)) ≡ true) × (joined (slots_with p (n.parcels key)) ≡ bytes)
  last_came = whole_some (is_complete (slots_with p (n.parcels key))) (joined (slots_with p (n.parcels key))) bytes last_whole

  pub whole_is_safe : (inbox : List Piece) (parcels : PartsGathered) → PieceIsSafe n p
      → MessageIsSafe (record n { inbox = inbox; parcels = parcels }) p.message.sender (with_load bytes p.message.kind)
  whole_is_safe inbox parcels s =
      message_frame n inbox parcels _ _ (subst (λ (b : List ℕ). MessageIsSafe n p.message.sender (with_load b p.message.kind)) last_came.1 (s.last key e last_came.0))

  pub whole_law : (at : ℕ) (parcels : PartsGathered) (last : Node) → size_for key.load key.name n ≡ Some size
      → parcels ≡ at_key n.parcels key (kept_of (with_piece p.index part (slots_or (count size) (n.parcels key))))
      → last ≡ acted at (node_handles p.message.sender (with_load bytes p.message.kind) (record n { parcels = parcels }))
      → last ≡ acted at (receives p n)
  whole_law at parcels last known parcels_are last_is =
      last_is ∙ rw parcels_are (rw (slots_same n p key size part f part_is) (rw (gathers_if n p key size e known f) (rw last_came.0 (rw last_came.1 refl))))

-- another one is missing
pub kept_law : (n : Node) (p : Piece) (key : Key) (size : ℕ) (part : List ℕ) (at : ℕ) (parcels : PartsGathered) (last : Node)
    → key_of p.message ≡ Some key → Fits n p key size → part ≡ load_of p.message.kind
    → is_complete (slots_with p (n.parcels key)) ≡ false
    → size_for key.load key.name n ≡ Some size
    → parcels ≡ at_key n.parcels key (kept_of (with_piece p.index part (slots_or (count size) (n.parcels key))))
    → last ≡ record n { parcels = parcels }
    → last ≡ acted at (receives p n)
kept_law n p key size part at parcels last e f part_is open_yet known parcels_are last_is =
    last_is ∙ rw parcels_are (rw (slots_same n p key size part f part_is) (rw (gathers_if n p key size e known f) (rw open_yet (rw (append-nil n.outbox) (rw (append-nil n.records) refl)))))

pub none_whole : (n : Node) (p : Piece) (key : Key) (size : ℕ) (part : List ℕ) → Fits n p key size → part ≡ load_of p.message.kind
    → whole_of (with_piece p.index part (slots_or (count size) (n.parcels key))) ≡ None → is_complete (slots_with p (n.parcels key)) ≡ false
none_whole n p key size part f part_is whole =
    whole_none (is_complete (slots_with p (n.parcels key))) (joined (slots_with p (n.parcels key))) (ap whole_of (sym (slots_same n p key size part f part_is)) ∙ whole)

-- ---- another piece is missing

open_at : (j : ℕ) (slots : List (Option (List ℕ))) → is_missing j slots ≡ true → is_complete slots ≡ false
open_at j [] e = absurd (cc)
open_at zero (None ∷ slots) e = refl
open_at zero (Some part ∷ slots) e = absurd (cc)
open_at (suc j) (None ∷ slots) e = refl
open_at (suc j) (Some part ∷ slots) e = open_at j slots e

still_open : (i j : ℕ) (part : List ℕ) (slots : List (Option (List ℕ))) → is_missing j slots ≡ true → j ≢ i → is_complete (with_piece i part slots) ≡ false
still_open i j part [] e apart = absurd (cc)
still_open zero zero part (s ∷ slots) e apart = absurd (apart refl)
still_open (suc i) zero part (None ∷ slots) e apart = refl
still_open (suc i) zero part (Some p ∷ slots) e apart = absurd (cc)
still_open zero (suc j) part (s ∷ slots) e apart = open_at j slots e
still_open (suc i) (suc j) part (None ∷ slots) e apart = refl
still_open (suc i) (suc j) part (Some p ∷ slots) e apart = still_open i j part slots e (λ same. apart (ap suc same))

pub leaves_open_if : (b : Bool) (n : Node) (key : Key) (p : Piece) (o : Option Piece) → Some p ≡ o
    → MatchBool b (MissesAnother p.index p.pieces (slots_or p.pieces (n.parcels key))) (MissesNoOther p.index p.pieces (slots_or p.pieces (n.parcels key)))
    → MatchBool b (LeavesOpen n key o) (IsLast n key o)
leaves_open_if false n key p o e h = subst (IsLast n key) e h
leaves_open_if true n key p o e h =
    subst (LeavesOpen n key) e (still_open p.index h.other (load_of p.message.kind) (slots_or p.pieces (n.parcels key)) h.missing h.apart)
