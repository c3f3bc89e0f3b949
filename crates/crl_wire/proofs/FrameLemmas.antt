-- The frame of a piece is read as that piece, a part of it is short, and with more bytes it is long.
use Rattle.std.proofs.Common.{◌≡◌, ℕ, ◌+◌, ◌-◌, ◌<◌, ◌≤◌, Bool, true, false, cond, ltb, List, [], ◌∷◌, ◌++◌, length, take, drop, Option, Some, None, Result, Ok, Err, refl, sym, ap, ◌∙◌, append_assoc, arith, inl, inr}
use Rattle.std.specs.Prelude.{option_and_then}
use Rattle.std.proofs.lemmas.Bool.{cases_lt, lt-ltb, le-ltb}
use Rattle.std.proofs.lemmas.List.{append-nil, take-append-drop, take-append-le, take_at, drop_at, drop-append-le, length-append}
use Rattle.crl_model.specs.declared.piece.Piece.{Piece}
use Rattle.crl_wire.specs.declared.form.Form.{Form}
use Rattle.crl_wire.specs.declared.header.Header.{Header}
use Rattle.crl_wire.specs.declared.fault.WireFault.{WireFault}
use Rattle.crl_wire.specs.declared.fault.WireFault.TheVariants.{Short, Long, BadKind}
use Rattle.crl_wire.specs.Table.{shape_of, is_shaped}
use Rattle.crl_wire.specs.Frame.{form_of, body_of, header_of, layout, frame, IsInTable, Fits}
use Rattle.crl_wire.specs.Decoding.{header_at, piece_from, form_in, with_body, with_form, with_header, decoded, BeginsFrame, ExceedsFrame}
use Rattle.crl_wire.proofs.TableLemmas.{is_found, parts_of, ends_below, home_below, len_below, place_below}
use Rattle.crl_wire.proofs.KindLemmas.{kind_again}
use Rattle.crl_wire.proofs.HeaderLemmas.{IsWide, layout_len, header_again}

-- a piece that was read
abbrev pub done : Piece → Result Piece WireFault
done p = Ok p

-- ---- a frame, or a part of one

-- a piece of the table is one of at most 512, and its body is short
pub in_bounds : (p : Piece) → IsInTable p → (1 ≤ p.pieces) × (p.pieces ≤ 512) × (length (body_of p.message.kind) ≤ 65536)
in_bounds p in_table =
    let shape = shape_of (form_of p.message.kind) in
    let parts = parts_of shape (header_of p) in_table.1 in
    let place = place_below shape.body (header_of p) parts.place in
    (in_table.0, omega (arith, place.0), len_below shape.body (length (body_of p.message.kind)) parts.len)

wide_of : (p : Piece) → Fits p → IsWide (header_of p)
wide_of p fits =
    let parts = parts_of (shape_of (form_of p.message.kind)) (header_of p) fits.in_table.1 in
    let ends = ends_below p.message.sender p.message.addressee parts.ends in
    let home = home_below (shape_of (form_of p.message.kind)).home (header_of p) parts.ends parts.home in
    let place = place_below (shape_of (form_of p.message.kind)).body (header_of p) parts.place in
    let len = len_below (shape_of (form_of p.message.kind)).body (length (body_of p.message.kind)) parts.len in
    record {
      sender = omega (arith, ends.0);
      addressee = omega (arith, ends.1);
      last_index = omega (arith, place.0);
      home = omega (arith, home);
      serial = fits.serial;
      number = fits.number;
      body_len = omega (arith, len);
      index = omega (arith, place.1);
    }

form_in_of : (p : Piece) → Fits p → form_in (header_of p) ≡ Some (form_of p.message.kind)
unfolding form_in
form_in_of p fits =
    ap (option_and_then (λ (form : Form). cond (is_shaped (shape_of form) (header_of p)) (Some form) None)) (is_found (form_of p.message.kind)).0
    ∙ ap (λ (b : Bool). cond b (Some (form_of p.message.kind)) None) fits.in_table.1

-- a header of a piece is read, whatever stands behind it
pub header_is_read : (p : Piece) (body : List ℕ) → Fits p → decoded (layout (header_of p) ++ body) ≡ with_body (header_of p) (form_of p.message.kind) body
unfolding decoded with_header with_form
header_is_read p body fits =
    let h = header_of p in
    let long : ltb (length (layout h ++ body)) 32 ≡ false = le-ltb (length (layout h ++ body)) 32 (omega (arith, length-append (layout h) body, layout_len h)) in
    let first : decoded (layout h ++ body) ≡ with_header (header_at (layout h ++ body)) (drop 32 (layout h ++ body)) =
    ap (λ (b : Bool). cond b (Err Short) (with_header (header_at (layout h ++ body)) (drop 32 (layout h ++ body)))) long in
    first
    ∙ ap (λ (x : Header). with_header x (drop 32 (layout h ++ body))) (header_again h body (wide_of p fits))
    ∙ ap (with_header h) (drop_at (layout h) body 32 (layout_len h))
    ∙ ap (λ (b : Bool). cond b (with_form h (form_in h) body) (Err BadKind)) (is_found (form_of p.message.kind)).1
    ∙ ap (λ (o : Option Form). with_form h o body) (form_in_of p fits)

piece_again : (p : Piece) → Fits p → piece_from (header_of p) (form_of p.message.kind) (body_of p.message.kind) ≡ p
piece_again p fits =
    let parts = parts_of (shape_of (form_of p.message.kind)) (header_of p) fits.in_table.1 in
    let kind = kind_again p.message.kind parts.number fits.values in
    let pieces : p.pieces - 1 + 1 ≡ p.pieces = omega (arith, fits.in_table.0) in
    λ i. record { message = record { sender = p.message.sender; addressee = p.message.addressee; kind = kind i }; pieces = pieces i; index = p.index }

pub frame_again : (p : Piece) → Fits p → decoded (frame p) ≡ Ok p
unfolding frame with_body
frame_again p fits =
    let same : ltb (length (body_of p.message.kind)) (length (body_of p.message.kind)) ≡ false = le-ltb (length (body_of p.message.kind)) (length (body_of p.message.kind)) (omega arith) in
    let whole : with_body (header_of p) (form_of p.message.kind) (body_of p.message.kind) ≡ Ok (piece_from (header_of p) (form_of p.message.kind) (body_of p.message.kind)) = rw same refl in
    header_is_read p (body_of p.message.kind) fits ∙ whole ∙ ap (λ (x : Piece). Ok x) (piece_again p fits)

more_than_frame : (p : Piece) (rest : List ℕ) (b : ℕ) → Fits p → decoded (frame p ++ b ∷ rest) ≡ Err Long
unfolding frame with_body
more_than_frame p rest b fits =
    let body = body_of p.message.kind in
    let more = body ++ b ∷ rest in
    let longer : length more ≡ length body + (length rest + 1) = length-append body (b ∷ rest) ∙ omega arith in
    let enough : ltb (length more) (length body) ≡ false = le-ltb (length more) (length body) (omega (arith, longer)) in
    let much : ltb (length body) (length more) ≡ true = lt-ltb (length body) (length more) (omega (arith, longer)) in
    let long : with_body (header_of p) (form_of p.message.kind) more ≡ Err Long = rw (enough, much) refl in
    ap decoded (append_assoc (layout (header_of p)) body (b ∷ rest)) ∙ header_is_read p more fits ∙ long

-- a front with all of the header
front_with_header : (p : Piece) (front rest : List ℕ) (b : ℕ) → Fits p → frame p ≡ front ++ b ∷ rest → 32 ≤ length front → decoded front ≡ Err Short
unfolding frame with_body
front_with_header p front rest b fits e le =
    let h = header_of p in
    let body = body_of p.message.kind in
    let header : take 32 front ≡ layout h = sym (take-append-le 32 front (b ∷ rest) le) ∙ ap (take 32) (sym e) ∙ take_at (layout h) body 32 (layout_len h) in
    let behind : drop 32 front ++ b ∷ rest ≡ body = sym (drop-append-le 32 front (b ∷ rest) le) ∙ ap (drop 32) (sym e) ∙ drop_at (layout h) body 32 (layout_len h) in
    let whole : front ≡ layout h ++ drop 32 front = sym (take-append-drop 32 front) ∙ ap (λ (x : List ℕ). x ++ drop 32 front) header in
    let len : length body ≡ length (drop 32 front) + (length rest + 1) = ap length (sym behind) ∙ length-append (drop 32 front) (b ∷ rest) ∙ omega arith in
    let less : ltb (length (drop 32 front)) (length body) ≡ true = lt-ltb (length (drop 32 front)) (length body) (omega (arith, len)) in
    let short : with_body h (form_of p.message.kind) (drop 32 front) ≡ Err Short = rw less refl in
    ap decoded whole ∙ header_is_read p (drop 32 front) fits ∙ short

front_of_frame : (p : Piece) (front rest : List ℕ) (b : ℕ) → Fits p → frame p ≡ front ++ b ∷ rest → decoded front ≡ Err Short
unfolding decoded
front_of_frame p front rest b fits e =
    elim (cases_lt (length front) 32) [
      | inl lt ↦ ap (λ (t : Bool). cond t (Err Short) (with_header (header_at front) (drop 32 front))) (lt-ltb (length front) 32 lt)
      | inr le ↦ front_with_header p front rest b fits e le
    ]

pub frames_apart : (p q : Piece) (rest : List ℕ) → Fits p → Fits q → frame q ≡ frame p ++ rest → (p ≡ q) × (rest ≡ [])
frames_apart p q [] fits_p fits_q e =
    let same : done p ≡ done q = sym (frame_again p fits_p) ∙ ap decoded (sym (e ∙ append-nil (frame p))) ∙ frame_again q fits_q in
    (cc, refl)
frames_apart p q (b ∷ rest) fits_p fits_q e =
    let both : done p ≡ Err Short = sym (frame_again p fits_p) ∙ front_of_frame q (frame p) rest b fits_q e in
    absurd cc

-- ---- the same, in the words of the laws

pub front_short : (bytes : List ℕ) → BeginsFrame bytes → decoded bytes ≡ Err Short
front_short bytes front = go front.rest front.more front.spelled
  where
    go : (rest : List ℕ) → 0 < length rest → frame front.piece ≡ bytes ++ rest → decoded bytes ≡ Err Short
    go [] more e = absurd (omega arith)
    go (b ∷ rest) more e = front_of_frame front.piece bytes rest b front.fits e

pub excess_long : (bytes : List ℕ) → ExceedsFrame bytes → decoded bytes ≡ Err Long
excess_long bytes excess = go excess.rest excess.more excess.spelled
  where
    go : (rest : List ℕ) → 0 < length rest → bytes ≡ frame excess.piece ++ rest → decoded bytes ≡ Err Long
    go [] more e = absurd (omega arith)
    go (b ∷ rest) more e = ap decoded e ∙ more_than_frame excess.piece rest b excess.fits
