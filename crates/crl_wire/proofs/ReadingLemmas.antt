-- What is read is a piece with that frame, and what the faults say of the bytes.
use Rattle.std.proofs.Common.{◌≡◌, ◌⊎◌, ℕ, zero, ◌+◌, ◌-◌, ◌<◌, ◌≤◌, Bool, true, false, cond, ltb, leb, List, ◌++◌, length, get_or, take, drop, Option, Some, None, Result, Ok, Err, refl, sym, ap, subst, ◌∙◌, append_assoc, arith, inl, inr}
use Rattle.std.specs.Prelude.{option_and_then, replicate, IfOk, MatchResult}
use Rattle.std.proofs.lemmas.Bool.{cases_lt, lt-ltb, le-ltb, ltb-true, ltb-false, leb-false, and_cases}
use Rattle.std.proofs.lemmas.List.{take-append-drop, length-append, length-take-le, length-drop, length-replicate, get_or-replicate, get_or_past, get_or_append_left, get_or-append_right}
use Rattle.crl_model.specs.declared.piece.Piece.{Piece}
use Rattle.crl_wire.specs.declared.form.Form.{Form}
use Rattle.crl_wire.specs.declared.header.Header.{Header}
use Rattle.crl_wire.specs.declared.fault.WireFault.{WireFault}
use Rattle.crl_wire.specs.declared.fault.WireFault.TheVariants.{Short, Long, BadKind, BadField, OutOfMemory}
use Rattle.crl_wire.specs.Table.{shape_of, is_kind, is_shaped}
use Rattle.crl_wire.specs.Frame.{form_of, name_of, number_of, body_of, header_of, layout, frame, Fits}
use Rattle.crl_wire.specs.Decoding.{header_at, kind_from, name_in, piece_from, form_at, form_in, with_body, with_form, with_header, decoded, Gives, BeginsFrame, ExceedsFrame}
use Rattle.crl_wire.proofs.ValueLemmas.{IsBytes, IsBytes-drop, IsBytes-take}
use Rattle.crl_wire.proofs.TableLemmas.{found_is, parts_of}
use Rattle.crl_wire.proofs.KindLemmas.{form_back, name_back, number_back, body_back, values_fit}
use Rattle.crl_wire.proofs.HeaderLemmas.{header_back, header_fits}
use Rattle.crl_wire.proofs.FrameLemmas.{done, header_is_read}

-- ---- the tests that were passed, where the answer isn't theirs

pub past_short : (bytes : List ℕ) (r : Result Piece WireFault) → 32 ≤ length bytes → decoded bytes ≡ r → with_header (header_at bytes) (drop 32 bytes) ≡ r
unfolding decoded
past_short bytes r le e = sym (ap (λ (b : Bool). cond b (Err Short) (with_header (header_at bytes) (drop 32 bytes))) (le-ltb (length bytes) 32 le)) ∙ e

past_kind : (h : Header) (body : List ℕ) (r : Result Piece WireFault) → (Err BadKind ≡ r → ⊥) → with_header h body ≡ r → with_form h (form_in h) body ≡ r
unfolding with_header
past_kind h body r other e = go (is_kind h.kind) e
  where
    go : (b : Bool) → cond b (with_form h (form_in h) body) (Err BadKind) ≡ r → with_form h (form_in h) body ≡ r
    go true k = k
    go false k = absurd (other k)

past_field : (h : Header) (o : Option Form) (body : List ℕ) (r : Result Piece WireFault) → (Err BadField ≡ r → ⊥) → with_form h o body ≡ r → (form : Form) × (o ≡ Some form) × (with_body h form body ≡ r)
unfolding with_form
past_field h None body r other e = absurd (other e)
past_field h (Some form) body r other e = (form, refl, e)

not_short : (bytes : List ℕ) (r : Result Piece WireFault) → (Err Short ≡ r → ⊥) → decoded bytes ≡ r → 32 ≤ length bytes
unfolding decoded
not_short bytes r other e =
    elim (cases_lt (length bytes) 32) [
      | inl lt ↦ absurd (other (sym (ap (λ (b : Bool). cond b (Err Short) (with_header (header_at bytes) (drop 32 bytes))) (lt-ltb (length bytes) 32 lt)) ∙ e))
      | inr le ↦ le
    ]

-- the header is that of a form
pub record Reads (bytes : List ℕ) (r : Result Piece WireFault) : Type 0 where
  pub form : Form
  pub there : form_in (header_at bytes) ≡ Some form
  pub result : with_body (header_at bytes) form (drop 32 bytes) ≡ r

past_header : (bytes : List ℕ) (r : Result Piece WireFault) → 32 ≤ length bytes → (Err BadKind ≡ r → ⊥) → (Err BadField ≡ r → ⊥) → decoded bytes ≡ r → Reads bytes r
past_header bytes r le kind field e =
    let f = past_field (header_at bytes) (form_in (header_at bytes)) (drop 32 bytes) r field (past_kind (header_at bytes) (drop 32 bytes) r kind (past_short bytes r le e)) in
    record { form = f.0; there = f.1; result = f.2 }

shaped_by : (h : Header) (o : Option Form) (form : Form) → option_and_then (λ (f : Form). cond (is_shaped (shape_of f) h) (Some f) None) o ≡ Some form → (o ≡ Some form) × (is_shaped (shape_of form) h ≡ true)
shaped_by h None form e = absurd cc
shaped_by h (Some f) form e = go (is_shaped (shape_of f) h) refl e
  where
    go : (b : Bool) → is_shaped (shape_of f) h ≡ b → cond b (Some f) None ≡ Some form → (Some f ≡ Some form) × (is_shaped (shape_of form) h ≡ true)
    go true test k = (k, let same : f ≡ form = cc in subst (λ (x : Form). is_shaped (shape_of x) h ≡ true) same test)
    go false test k = absurd cc

pub form_in_is : (h : Header) (form : Form) → form_in h ≡ Some form → (form_at h.kind h.flag ≡ Some form) × (is_shaped (shape_of form) h ≡ true)
unfolding form_in
form_in_is h form e = shaped_by h (form_at h.kind h.flag) form e

-- which way the length of the body lies
record Lengths (h : Header) (form : Form) (body : List ℕ) (r : Result Piece WireFault) : Type 0 where
  short : (r ≡ Err Short) → length body < h.body_len
  long : (r ≡ Err Long) → h.body_len < length body
  equal : (piece : Piece) → r ≡ Ok piece → (length body ≡ h.body_len) × (done (piece_from h form body) ≡ done piece)
  other : (r ≡ Err BadField) ⊎ (r ≡ Err BadKind) → ⊥

lengths : (h : Header) (form : Form) (body : List ℕ) (r : Result Piece WireFault) → with_body h form body ≡ r → Lengths h form body r
unfolding with_body
lengths h form body r e = go (ltb (length body) h.body_len) (ltb h.body_len (length body)) refl refl e
  where
    go : (a b : Bool) → ltb (length body) h.body_len ≡ a → ltb h.body_len (length body) ≡ b → cond a (Err Short) (cond b (Err Long) (Ok (piece_from h form body))) ≡ r → Lengths h form body r
    go true b p q k = record {
      short = λ x. ltb-true (length body) h.body_len p;
      long = λ x. absurd cc;
      equal = λ piece x. absurd cc;
      other = λ x. elim x [ inl y ↦ cc | inr y ↦ cc ];
    }
    go false true p q k = record {
      short = λ x. absurd cc;
      long = λ x. ltb-true h.body_len (length body) q;
      equal = λ piece x. absurd cc;
      other = λ x. elim x [ inl y ↦ cc | inr y ↦ cc ];
    }
    go false false p q k = record {
      short = λ x. absurd cc;
      long = λ x. absurd cc;
      equal = λ piece x. (omega (arith, ltb-false (length body) h.body_len p, ltb-false h.body_len (length body) q), k ∙ x);
      other = λ x. elim x [ inl y ↦ cc | inr y ↦ cc ];
    }

-- what was made of a header and a body has them
header_stays : (h : Header) (form : Form) (body : List ℕ) → IsBytes body → form_at h.kind h.flag ≡ Some form → is_shaped (shape_of form) h ≡ true → length body ≡ h.body_len
    → (header_of (piece_from h form body) ≡ h) × (body_of (piece_from h form body).message.kind ≡ body)
header_stays h form body fits at shaped len =
    let parts = parts_of (shape_of form) h shaped in
    let k = kind_from form (name_in h) h.number body in
    let fb : form_of k ≡ form = form_back form (name_in h) h.number body in
    let there = found_is h.kind h.flag form at in
    let kind : (shape_of (form_of k)).kind ≡ h.kind = ap (λ (f : Form). (shape_of f).kind) fb ∙ there.0 in
    let flag : (shape_of (form_of k)).flag ≡ h.flag = ap (λ (f : Form). (shape_of f).flag) fb ∙ there.1 in
    let name = name_back form h h.number body parts.home in
    let home : (name_of k).home ≡ h.home = ap (λ n. n.home) name in
    let serial : (name_of k).serial ≡ h.serial = ap (λ n. n.serial) name in
    let number : number_of k ≡ h.number = number_back form (name_in h) h.number body parts.number in
    let body_is : body_of k ≡ body = body_back form (name_in h) h.number body (rw len parts.len) fits in
    let body_len : length (body_of k) ≡ h.body_len = ap length body_is ∙ len in
    let last_index : h.last_index + 1 - 1 ≡ h.last_index = omega arith in (
      λ i. record {
        kind = kind i;
        flag = flag i;
        sender = h.sender;
        addressee = h.addressee;
        last_index = last_index i;
        home = home i;
        serial = serial i;
        number = number i;
        body_len = body_len i;
        index = h.index;
      },
      body_is,
    )

-- a header with a form, and a body of its length, are a piece's
pub record Made (bytes body : List ℕ) (piece : Piece) : Type 0 where
  pub fits : Fits piece
  pub spelled : frame piece ≡ layout (header_at bytes) ++ body

made : (bytes : List ℕ) (form : Form) (body : List ℕ) → IsBytes bytes → IsBytes body → form_in (header_at bytes) ≡ Some form → length body ≡ (header_at bytes).body_len → Made bytes body (piece_from (header_at bytes) form body)
unfolding frame
made bytes form body fits body_fits there len =
    let h = header_at bytes in
    let is = form_in_is h form there in
    let piece = piece_from h form body in
    let stays = header_stays h form body body_fits is.0 is.1 len in
    let form_is : form_of piece.message.kind ≡ form = form_back form (name_in h) h.number body in
    let in_table : is_shaped (shape_of (form_of piece.message.kind)) (header_of piece) ≡ true = ap (λ (f : Form). is_shaped (shape_of f) (header_of piece)) form_is ∙ ap (is_shaped (shape_of form)) stays.0 ∙ is.1 in
    let serial : (name_of piece.message.kind).serial ≡ h.serial = ap (λ (x : Header). x.serial) stays.0 in
    let number : number_of piece.message.kind ≡ h.number = ap (λ (x : Header). x.number) stays.0 in
    let wide = header_fits bytes fits in
    record {
      fits = record { in_table = (omega arith, in_table); serial = omega (arith, serial, wide.0); number = omega (arith, number, wide.1); values = values_fit form (name_in h) h.number body body_fits };
      spelled = ap (λ (x : Header). layout x ++ body_of piece.message.kind) stays.0 ∙ ap (λ (x : List ℕ). layout h ++ x) stays.1;
    }

-- ---- a piece

abbrev IsOf : List ℕ → Piece → Type 0
IsOf bytes piece = Fits piece × (bytes ≡ frame piece)

read_is_of : (bytes : List ℕ) (piece : Piece) → IsBytes bytes → decoded bytes ≡ Ok piece → IsOf bytes piece
read_is_of bytes piece fits e =
    let le = not_short bytes (Ok piece) (λ k. cc) e in
    let reads = past_header bytes (Ok piece) le (λ k. cc) (λ k. cc) e in
    let equal = (lengths (header_at bytes) reads.form (drop 32 bytes) (Ok piece) reads.result).equal piece refl in
    let same : piece_from (header_at bytes) reads.form (drop 32 bytes) ≡ piece = let k = equal.1 in cc in
    let is = made bytes reads.form (drop 32 bytes) fits (IsBytes-drop 32 bytes fits) reads.there equal.0 in
    subst (IsOf bytes) same (is.fits, sym (header_back bytes le fits) ∙ sym is.spelled)

-- ---- the faults

-- so many zeros
abbrev zeros : ℕ → List ℕ
zeros n = replicate n 0

zeros_len : (n : ℕ) → length (zeros n) ≡ n
zeros_len n = length-replicate {A = ℕ} n 0

zeros_fit : (n : ℕ) → IsBytes (zeros n)
zeros_fit n k =
    let small : (x : ℕ) → x ≡ zero → x < 256 = λ (x : ℕ). λ (e : x ≡ zero). omega arith in
    elim (cases_lt k n) [
      | inl lt ↦ small (get_or (zeros n) k 0) (get_or-replicate {A = ℕ} n k 0 0 lt)
      | inr le ↦ small (get_or (zeros n) k 0) (get_or_past {X = ℕ} (zeros n) k 0 (omega (arith, zeros_len n)))
    ]

IsBytes-fill : (bytes : List ℕ) (n : ℕ) → IsBytes bytes → IsBytes (bytes ++ zeros n)
IsBytes-fill bytes n fits i =
    elim (cases_lt i (length bytes)) [
      | inl lt ↦ let at : get_or (bytes ++ zeros n) i 0 ≡ get_or bytes i 0 = get_or_append_left bytes (zeros n) 0 i lt in omega (arith, at, fits i)
      | inr le ↦ let at : get_or (bytes ++ zeros n) i 0 ≡ get_or (zeros n) (i - length bytes) 0 = get_or-append_right bytes (zeros n) (length bytes) i 0 refl le in omega (arith, at, zeros_fit n (i - length bytes))
    ]

-- a body that is short is filled with zeros
cut_of : (bytes : List ℕ) → IsBytes bytes → 32 ≤ length bytes → decoded bytes ≡ Err Short → BeginsFrame bytes
cut_of bytes fits le e =
    let h = header_at bytes in
    let body = drop 32 bytes in
    let reads = past_header bytes (Err Short) le (λ k. cc) (λ k. cc) e in
    let less = (lengths h reads.form body (Err Short) reads.result).short refl in
    let rest = zeros (h.body_len - length body) in
    let len : length rest ≡ h.body_len - length body = zeros_len (h.body_len - length body) in
    let filled : length (body ++ rest) ≡ h.body_len = length-append body rest ∙ omega (arith, len, less) in
    let is = made bytes reads.form (body ++ rest) fits (IsBytes-fill body (h.body_len - length body) (IsBytes-drop 32 bytes fits)) reads.there filled in
    record {
      piece = piece_from h reads.form (body ++ rest);
      rest = rest;
      fits = is.fits;
      more = omega (arith, len, less);
      spelled = is.spelled ∙ sym (append_assoc (layout h) body rest) ∙ ap (λ (x : List ℕ). x ++ rest) (header_back bytes le fits);
    }

pub short_of : (bytes : List ℕ) → IsBytes bytes → decoded bytes ≡ Err Short → (length bytes < 32) ⊎ BeginsFrame bytes
short_of bytes fits e =
    elim (cases_lt (length bytes) 32) [
      | inl lt ↦ inl lt
      | inr le ↦ inr (cut_of bytes fits le e)
    ]

-- the first bytes behind the header are a body
pub long_of : (bytes : List ℕ) → IsBytes bytes → decoded bytes ≡ Err Long → ExceedsFrame bytes
long_of bytes fits e =
    let h = header_at bytes in
    let le = not_short bytes (Err Long) (λ k. cc) e in
    let reads = past_header bytes (Err Long) le (λ k. cc) (λ k. cc) e in
    let more = (lengths h reads.form (drop 32 bytes) (Err Long) reads.result).long refl in
    let body = take h.body_len (drop 32 bytes) in
    let rest = drop h.body_len (drop 32 bytes) in
    let len : length body ≡ h.body_len = length-take-le h.body_len (drop 32 bytes) (omega (arith, more)) in
    let is = made bytes reads.form body fits (IsBytes-take h.body_len (drop 32 bytes) (IsBytes-drop 32 bytes fits)) reads.there len in
    record {
      piece = piece_from h reads.form body;
      rest = rest;
      fits = is.fits;
      more = omega (arith, more, length-drop h.body_len (drop 32 bytes));
      spelled = sym (header_back bytes le fits) ∙ ap (λ (x : List ℕ). layout h ++ x) (sym (take-append-drop h.body_len (drop 32 bytes))) ∙ sym (append_assoc (layout h) body rest) ∙ ap (λ (x : List ℕ). x ++ rest) (sym is.spelled);
    }

no_kind : (n : ℕ) → is_kind n ≡ false → (n ≡ 0) ⊎ (14 < n)
no_kind n e =
    elim (and_cases (leb 1 n) (leb n 14) e) [
      | inl low ↦ inl (omega (arith, leb-false 1 n low))
      | inr high ↦ inr (leb-false n 14 high)
    ]

pub bad_kind_of : (bytes : List ℕ) → decoded bytes ≡ Err BadKind → (get_or bytes 0 0 ≡ 0) ⊎ (14 < get_or bytes 0 0)
unfolding header_at with_header
bad_kind_of bytes e =
    let le = not_short bytes (Err BadKind) (λ k. cc) e in
    go (is_kind (get_or bytes 0 0)) refl (past_short bytes (Err BadKind) le e)
  where
    go : (b : Bool) → is_kind (get_or bytes 0 0) ≡ b → cond b (with_form (header_at bytes) (form_in (header_at bytes)) (drop 32 bytes)) (Err BadKind) ≡ Err BadKind → (get_or bytes 0 0 ≡ 0) ⊎ (14 < get_or bytes 0 0)
    go true test k =
        let f = past_field (header_at bytes) (form_in (header_at bytes)) (drop 32 bytes) (Err BadKind) (λ x. cc) k in
        absurd ((lengths (header_at bytes) f.0 (drop 32 bytes) (Err BadKind) f.2).other (inr refl))
    go false test k = no_kind (get_or bytes 0 0) test

pub bad_field_of : (bytes : List ℕ) → decoded bytes ≡ Err BadField → (piece : Piece) → Fits piece → take 32 bytes ≡ layout (header_of piece) → ⊥
bad_field_of bytes bad piece fits header =
    let whole : layout (header_of piece) ++ drop 32 bytes ≡ bytes = ap (λ (x : List ℕ). x ++ drop 32 bytes) (sym header) ∙ take-append-drop 32 bytes in
    (lengths (header_of piece) (form_of piece.message.kind) (drop 32 bytes) (Err BadField) (sym (header_is_read piece (drop 32 bytes) fits) ∙ ap decoded whole ∙ bad)).other (inl refl)

-- ---- what decoding returned

pub gives_of : (bytes : List ℕ) (r : Result Piece WireFault) → 32 ≤ length bytes → Gives r (with_header (header_at bytes) (drop 32 bytes)) → Gives r (decoded bytes)
unfolding decoded
gives_of bytes r le g = subst (λ (b : Bool). Gives r (cond b (Err Short) (with_header (header_at bytes) (drop 32 bytes)))) (sym (le-ltb (length bytes) 32 le)) g

pub found_of : (bytes : List ℕ) (r : Result Piece WireFault) → IsBytes bytes → Gives r (decoded bytes) → IfOk r (λ piece. Fits piece × (bytes ≡ frame piece))
found_of bytes (Ok piece) fits g = read_is_of bytes piece fits g
found_of bytes (Err fault) fits g = tt

pub only_of : (piece : Piece) (r : Result Piece WireFault) (read : Result Piece WireFault) → read ≡ Ok piece → Gives r read → MatchResult r (λ x. x ≡ piece) (λ fault. fault ≡ OutOfMemory)
only_of piece (Ok x) read is g = let both : done x ≡ done piece = sym g ∙ is in cc
only_of piece (Err Short) read is g = absurd (let both : done piece ≡ Err Short = sym is ∙ g in cc)
only_of piece (Err Long) read is g = absurd (let both : done piece ≡ Err Long = sym is ∙ g in cc)
only_of piece (Err BadKind) read is g = absurd (let both : done piece ≡ Err BadKind = sym is ∙ g in cc)
only_of piece (Err BadField) read is g = absurd (let both : done piece ≡ Err BadField = sym is ∙ g in cc)
only_of piece (Err OutOfMemory) read is g = refl
