-- A piece of which this is known is one of the table of frames.
use Rattle.std.proofs.Common.{◌≡◌, ℕ, ◌-◌, ◌≤◌, ◌<◌, ◌^◌, ◌==◌, nat_lt, nat_le, true, false, not, ◌&&◌, ◌||◌, ◌⊎◌, inl, inr, None, Some, length, refl, ap, sym, subst, arith}
use Rattle.std.proofs.lemmas.Bool.{lt-ltb, le-leb, eq-eqb, ne_eqb, cases_lt}
use Rattle.std.specs.Cmp.Derive.{both_true}
use Rattle.crl_model.specs.declared.collective.Part.TheVariants as part
use Rattle.crl_model.specs.declared.collective.Fold.TheVariants as fold
use Rattle.crl_model.specs.declared.message.Told.TheVariants as told
use Rattle.crl_model.specs.declared.message.DeleteTold.TheVariants as delete_told
use Rattle.crl_model.specs.declared.message.Granted.TheVariants.{Shared, Exclusive, Upgrade}
use Rattle.crl_model.specs.declared.message.Message.{Message}
use Rattle.crl_model.specs.declared.message.Kind.{Kind}
use Rattle.crl_model.specs.declared.message.Kind.TheVariants as kind
use Rattle.crl_pieces.specs.Pieces.{count, piece_size}
use Rattle.crl_protocol.specs.Parcels.{Piece, Key, key_of, load_of}
use Rattle.crl_framed.specs.Framed.{FitsEnds, FitsHome, FitsNumber, FitsSize, FitsSerial, SerialIsReal, IsRegionSize, IsPieceOf, PieceIsPlaced}
use Rattle.crl_wire.specs.Table.{shape_of, are_ends, is_home, is_number, is_len, is_place}
use Rattle.crl_wire.specs.Frame.{form_of, name_of, number_of, body_of, header_of, FitsValues, IsInTable, Fits}
use Rattle.crl_frames.proofs.Values.{ValueFits, ValueSendable}

-- what is known of a piece in a box
pub record Known (p : Piece) : Type 0 where
  pub ends : FitsEnds p.message
  pub home : FitsHome p.message.sender p.message.addressee p.message.kind
  pub number : FitsNumber p.message.kind
  pub size : FitsSize p.message.kind
  pub serial : SerialIsReal p.message
  pub value : ValueSendable p.message.kind
  pub placed : PieceIsPlaced p

-- the tests of the table, but that of the ends
record Shaped (p : Piece) : Type 0 where
  home : is_home (shape_of (form_of p.message.kind)).home (header_of p) ≡ true
  number : is_number (shape_of (form_of p.message.kind)).number (number_of p.message.kind) ≡ true
  len : is_len (shape_of (form_of p.message.kind)).body (length (body_of p.message.kind)) ≡ true
  place : is_place (shape_of (form_of p.message.kind)).body (header_of p) ≡ true

-- Tests that hold.
same_and : (a b c : ℕ) → a ≡ b → 1 ≤ c → ((a == b) && nat_le 1 c) ≡ true
same_and a b c e l = both_true (eq-eqb a b e) (le-leb 1 c l)

within : (low high n : ℕ) → low ≤ n → n ≤ high → (nat_le low n && nat_le n high) ≡ true
within low high n a b = both_true (le-leb low n a) (le-leb n high b)

zeros : (a b : ℕ) → a ≡ 0 → b ≡ 0 → ((a == 0) && (b == 0)) ≡ true
zeros a b x y = both_true (eq-eqb a 0 x) (eq-eqb b 0 y)

third_zero : (a : ℕ) → a ≡ 0 → (true && true && (a == 0)) ≡ true
third_zero a e = eq-eqb a 0 e

ends_shaped : (m : Message) → FitsEnds m → are_ends m.sender m.addressee ≡ true
ends_shaped m e = both_true (both_true (lt-ltb _ _ e.sender) (lt-ltb _ _ e.addressee)) (ap not (ne_eqb _ _ e.other))

-- The only piece of a message, and one of several.
sole : (p : Piece) → PieceIsPlaced p → key_of p.message ≡ None → ((p.pieces - 1 == 0) && (p.index == 0)) ≡ true
sole p k e =
    let none = k.none e in
    let pieces = k.is.pieces in
    let index = k.is.index in zeros (p.pieces - 1) p.index (omega arith) (omega arith)

region_len : (size index : ℕ) → IsRegionSize size → index < count size → (1 ≤ piece_size size index) × (piece_size size index ≤ 32768)
region_len size index r l = let a = r.0 in (omega arith, omega arith)

last_or_whole : (size index last : ℕ) → index < count size → last ≡ count size - 1 → ((index == last) || (piece_size size index == 32768)) ≡ true
last_or_whole size index last l e = go (cases_lt index last)
  where
    go : (index < last) ⊎ (last ≤ index) → ((index == last) || (piece_size size index == 32768)) ≡ true
    go (inl less) = let whole = eq-eqb (piece_size size index) 32768 (omega arith) in grind arith
    go (inr more) = let same = eq-eqb index last (omega arith) in grind arith

-- how many bytes the piece of a region has, and its place
abbrev RegionPlace : Piece → ℕ → Type 0
RegionPlace p n =
    ((nat_le 1 n && nat_le n 32768) ≡ true) × ((nat_lt (p.pieces - 1) 512 && nat_le p.index (p.pieces - 1) && ((p.index == p.pieces - 1) || (n == 32768))) ≡ true)

in_region : (p : Piece) (size : ℕ) → IsRegionSize size → IsPieceOf size p → RegionPlace p (piece_size size p.index)
in_region p size r k =
    let few = r.1 in
    let pieces = k.pieces in
    let index = k.index in
    let less : p.index < count size = omega arith in
    let len = region_len size p.index r less in (
      within 1 32768 (piece_size size p.index) len.0 len.1,
      both_true (both_true (lt-ltb (p.pieces - 1) 512 (omega arith)) (le-leb p.index (p.pieces - 1) (omega arith))) (last_or_whole size p.index (p.pieces - 1) less (omega arith)),
    )

region : (p : Piece) (key : Key) → PieceIsPlaced p → key_of p.message ≡ Some key → RegionPlace p (length (load_of p.message.kind))
region p key k e = subst (RegionPlace p) (sym k.is.bytes) (in_region p k.size (k.some key e) k.is)

-- Each kind of message.
abbrev piece : ℕ → ℕ → ℕ → ℕ → Kind → Piece
piece from to pieces index k = record { message = record { sender = from; addressee = to; kind = k }; pieces = pieces; index = index }

by : {p : Piece} → is_home (shape_of (form_of p.message.kind)).home (header_of p) ≡ true → is_number (shape_of (form_of p.message.kind)).number (number_of p.message.kind) ≡ true
    → is_len (shape_of (form_of p.message.kind)).body (length (body_of p.message.kind)) ≡ true → is_place (shape_of (form_of p.message.kind)).body (header_of p) ≡ true → Shaped p
by home number len place = record { home = home; number = number; len = len; place = place }

shaped : (from to pieces index : ℕ) (k : Kind) → Known (piece from to pieces index k) → Shaped (piece from to pieces index k)
shaped from to pieces index (kind.InfoAsk name) k = by (same_and name.home to name.serial k.home k.serial) refl refl (sole _ k.placed refl)
shaped from to pieces index (kind.InfoIs name (told.Live size)) k = by (same_and name.home from name.serial k.home k.serial) (within 1 16777216 size k.size.0 k.size.1) refl (sole _ k.placed refl)
shaped from to pieces index (kind.InfoIs name told.Unknown) k = by (same_and name.home from name.serial k.home k.serial) refl refl (sole _ k.placed refl)
shaped from to pieces index (kind.InfoIs name told.Deleted) k = by (same_and name.home from name.serial k.home k.serial) refl refl (sole _ k.placed refl)
shaped from to pieces index (kind.Ask name true have) k = by (same_and name.home to name.serial k.home k.serial) refl refl (sole _ k.placed refl)
shaped from to pieces index (kind.Ask name false have) k = by (same_and name.home to name.serial k.home k.serial) (eq-eqb have 0 k.number) refl (sole _ k.placed refl)
shaped from to pieces index (kind.Grant name version (Shared bytes)) k = by (same_and name.home from name.serial k.home k.serial) (le-leb 1 version k.number.0) (region _ _ k.placed refl).0 (region _ _ k.placed refl).1
shaped from to pieces index (kind.Grant name version (Exclusive bytes)) k = by (same_and name.home from name.serial k.home k.serial) (le-leb 1 version k.number.0) (region _ _ k.placed refl).0 (region _ _ k.placed refl).1
shaped from to pieces index (kind.Grant name version Upgrade) k = by (same_and name.home from name.serial k.home k.serial) (le-leb 1 version k.number.0) refl (sole _ k.placed refl)
shaped from to pieces index (kind.Recall name version) k = by (same_and name.home from name.serial k.home k.serial) (le-leb 1 version k.number.0) refl (sole _ k.placed refl)
shaped from to pieces index (kind.Yield name version) k = by (same_and name.home from name.serial k.home k.serial) (le-leb 1 version k.number.0) refl (sole _ k.placed refl)
shaped from to pieces index (kind.Return name version None) k = by (same_and name.home to name.serial k.home k.serial) (le-leb 1 version k.number.0) refl (sole _ k.placed refl)
shaped from to pieces index (kind.Return name version (Some bytes)) k = by (same_and name.home to name.serial k.home k.serial) (le-leb 1 version k.number.0) (region _ _ k.placed refl).0 (region _ _ k.placed refl).1
shaped from to pieces index (kind.Release name version bytes) k = by (same_and name.home to name.serial k.home k.serial) (le-leb 1 version k.number.0) (region _ _ k.placed refl).0 (region _ _ k.placed refl).1
shaped from to pieces index (kind.DeleteAsk name) k = by (same_and name.home to name.serial k.home k.serial) refl refl (sole _ k.placed refl)
shaped from to pieces index (kind.DeleteIs name delete_told.Done) k = by (same_and name.home from name.serial k.home k.serial) refl refl (sole _ k.placed refl)
shaped from to pieces index (kind.DeleteIs name delete_told.Unknown) k = by (same_and name.home from name.serial k.home k.serial) refl refl (sole _ k.placed refl)
shaped from to pieces index (kind.DeleteIs name delete_told.Deleted) k = by (same_and name.home from name.serial k.home k.serial) refl refl (sole _ k.placed refl)
shaped from to pieces index (kind.Purge name) k = by (same_and name.home from name.serial k.home k.serial) refl refl (sole _ k.placed refl)
shaped from to pieces index (kind.Purged name) k = by (same_and name.home to name.serial k.home k.serial) refl refl (sole _ k.placed refl)
shaped from to pieces index (kind.Come round part.Barrier) k = by (third_zero to k.home) (le-leb 1 round k.number.0) refl (sole _ k.placed refl)
shaped from to pieces index (kind.Come round (part.Send bytes)) k = by (third_zero to k.home) (le-leb 1 round k.number.0) (within 1 65536 (length bytes) k.value.0 k.value.1) (sole _ k.placed refl)
shaped from to pieces index (kind.Come round part.Receive) k = by (third_zero to k.home) (le-leb 1 round k.number.0) refl (sole _ k.placed refl)
shaped from to pieces index (kind.Come round (part.Sum v)) k = by (third_zero to k.home) (le-leb 1 round k.number.0) refl (sole _ k.placed refl)
shaped from to pieces index (kind.Come round (part.Min v)) k = by (third_zero to k.home) (le-leb 1 round k.number.0) refl (sole _ k.placed refl)
shaped from to pieces index (kind.Come round (part.Max v)) k = by (third_zero to k.home) (le-leb 1 round k.number.0) refl (sole _ k.placed refl)
shaped from to pieces index (kind.Result round fold.Barrier) k = by (third_zero from k.home) (le-leb 1 round k.number.0) refl (sole _ k.placed refl)
shaped from to pieces index (kind.Result round (fold.Broadcast bytes)) k = by (third_zero from k.home) (le-leb 1 round k.number.0) (within 1 65536 (length bytes) k.value.0 k.value.1) (sole _ k.placed refl)
shaped from to pieces index (kind.Result round (fold.Sum v)) k = by (third_zero from k.home) (le-leb 1 round k.number.0) refl (sole _ k.placed refl)
shaped from to pieces index (kind.Result round (fold.Min v)) k = by (third_zero from k.home) (le-leb 1 round k.number.0) refl (sole _ k.placed refl)
shaped from to pieces index (kind.Result round (fold.Max v)) k = by (third_zero from k.home) (le-leb 1 round k.number.0) refl (sole _ k.placed refl)
shaped from to pieces index (kind.Result round fold.Mixed) k = by (third_zero from k.home) (le-leb 1 round k.number.0) refl (sole _ k.placed refl)

in_table : (p : Piece) → Known p → Shaped p → IsInTable p
in_table p k s =
    let pieces = k.placed.is.pieces in (omega arith, both_true (both_true (both_true (both_true (ends_shaped p.message k.ends) s.home) s.number) s.len) s.place)

pub known_in_table : (p : Piece) → Known p → IsInTable p
known_in_table p k = in_table p k (shaped p.message.sender p.message.addressee p.pieces p.index p.message.kind k)

-- One whose numbers are within the types of their fields has a frame.
serial_word : (k : Kind) → FitsSerial k → (name_of k).serial < 2 ^ 32
serial_word (kind.Come round part) s = omega arith
serial_word (kind.Result round fold) s = omega arith
serial_word _ s = s.1

number_word : (k : Kind) → FitsNumber k → FitsSize k → number_of k < 2 ^ 64
number_word (kind.InfoIs name (told.Live size)) n s = let few = s.1 in omega arith
number_word (kind.InfoIs name told.Unknown) n s = omega arith
number_word (kind.InfoIs name told.Deleted) n s = omega arith
number_word (kind.Ask name true have) n s = n
number_word (kind.Ask name false have) n s = omega arith
number_word (kind.Grant name version granted) n s = n.1
number_word (kind.Recall name version) n s = n.1
number_word (kind.Yield name version) n s = n.1
number_word (kind.Return name version bytes) n s = n.1
number_word (kind.Release name version bytes) n s = n.1
number_word (kind.Come round part) n s = n.1
number_word (kind.Result round fold) n s = n.1
number_word _ n s = omega arith

values_within : (k : Kind) → ValueFits k → FitsValues k
values_within (kind.Come round part.Barrier) v = tt
values_within (kind.Come round (part.Send bytes)) v = tt
values_within (kind.Come round part.Receive) v = tt
values_within (kind.Come round (part.Sum x)) v = v.1
values_within (kind.Come round (part.Min x)) v = v.1
values_within (kind.Come round (part.Max x)) v = v.1
values_within (kind.Result round fold.Barrier) v = tt
values_within (kind.Result round (fold.Broadcast bytes)) v = tt
values_within (kind.Result round (fold.Sum x)) v = v
values_within (kind.Result round (fold.Min x)) v = v
values_within (kind.Result round (fold.Max x)) v = v
values_within (kind.Result round fold.Mixed) v = tt
values_within _ v = tt

pub known_fits : (p : Piece) → Known p → FitsSerial p.message.kind → ValueFits p.message.kind → Fits p
known_fits p k s v =
    record { in_table = known_in_table p k; serial = serial_word p.message.kind s; number = number_word p.message.kind k.number k.size; values = values_within p.message.kind v }
