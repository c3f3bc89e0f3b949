-- A header is read again from its bytes, and its bytes are those that it was read from.
use Rattle.std.proofs.Common.{◌≡◌, ℕ, ◌+◌, ◌-◌, ◌^◌, ◌<◌, ◌≤◌, List, ◌∷◌, ◌++◌, length, get_or, drop, refl, sym, ap, ◌∙◌, arith}
use Rattle.std.specs.List.{slice_range}
use Rattle.std.specs.Int.{w16, w32, w64, to_be_bytes}
use Rattle.std.proofs.lemmas.List.{length-take, length-drop, drop_more}
use Rattle.std.proofs.lemmas.List.Folds.{drop_split}
use Rattle.std.proofs.lemmas.Nat.{be_bytes_2, be_bytes_4, be_bytes_8, from_be_bytes-to_be_bytes_2, from_be_bytes-to_be_bytes_4, from_be_bytes-to_be_bytes_8}
use Rattle.crl_wire.specs.declared.header.Header.{Header}
use Rattle.crl_wire.specs.Frame.{layout}
use Rattle.crl_wire.specs.Decoding.{number_at, header_at}
use Rattle.crl_wire.proofs.ValueLemmas.{IsBytes, IsBytes-drop, IsBytes-take}

-- the numbers have places for all their bytes
pub record IsWide (h : Header) : Type 0 where
  pub sender : h.sender < 2 ^ 16
  pub addressee : h.addressee < 2 ^ 16
  pub last_index : h.last_index < 2 ^ 16
  pub home : h.home < 2 ^ 32
  pub serial : h.serial < 2 ^ 32
  pub number : h.number < 2 ^ 64
  pub body_len : h.body_len < 2 ^ 32
  pub index : h.index < 2 ^ 32

pub layout_len : (h : Header) → length (layout h) ≡ 32
unfolding layout
layout_len h = refl

pub header_again : (h : Header) (body : List ℕ) → IsWide h → header_at (layout h ++ body) ≡ h
unfolding layout header_at
header_again h body wide =
    let sender = from_be_bytes-to_be_bytes_2 h.sender wide.sender in
    let addressee = from_be_bytes-to_be_bytes_2 h.addressee wide.addressee in
    let last_index = from_be_bytes-to_be_bytes_2 h.last_index wide.last_index in
    let home = from_be_bytes-to_be_bytes_4 h.home wide.home in
    let serial = from_be_bytes-to_be_bytes_4 h.serial wide.serial in
    let number = from_be_bytes-to_be_bytes_8 h.number wide.number in
    let body_len = from_be_bytes-to_be_bytes_4 h.body_len wide.body_len in
    let index = from_be_bytes-to_be_bytes_4 h.index wide.index in
    λ i. record {
      kind = h.kind;
      flag = h.flag;
      sender = sender i;
      addressee = addressee i;
      last_index = last_index i;
      home = home i;
      serial = serial i;
      number = number i;
      body_len = body_len i;
      index = index i;
    }

-- ---- a field of a text

range_len : (bytes : List ℕ) (at n : ℕ) → at + n ≤ length bytes → length (slice_range bytes at (at + n)) ≡ n
range_len bytes at n le = omega (arith, length-take (at + n - at) (drop at bytes), length-drop at bytes)

range_fits : (bytes : List ℕ) (at end : ℕ) → IsBytes bytes → IsBytes (slice_range bytes at end)
range_fits bytes at end fits = IsBytes-take (end - at) (drop at bytes) (IsBytes-drop at bytes fits)

field_2 : (bytes : List ℕ) (at : ℕ) → at + 2 ≤ length bytes → IsBytes bytes → to_be_bytes w16 (number_at w16 at bytes) ++ drop (at + 2) bytes ≡ drop at bytes
field_2 bytes at le fits =
    ap (λ (x : List ℕ). x ++ drop (at + 2) bytes) (be_bytes_2 (slice_range bytes at (at + 2)) _ (range_len bytes at 2 le) (range_fits bytes at (at + 2) fits) refl) ∙ sym (drop_split bytes at (at + 2) (omega arith))

field_4 : (bytes : List ℕ) (at : ℕ) → at + 4 ≤ length bytes → IsBytes bytes → to_be_bytes w32 (number_at w32 at bytes) ++ drop (at + 4) bytes ≡ drop at bytes
field_4 bytes at le fits =
    ap (λ (x : List ℕ). x ++ drop (at + 4) bytes) (be_bytes_4 (slice_range bytes at (at + 4)) _ (range_len bytes at 4 le) (range_fits bytes at (at + 4) fits) refl) ∙ sym (drop_split bytes at (at + 4) (omega arith))

field_8 : (bytes : List ℕ) (at : ℕ) → at + 8 ≤ length bytes → IsBytes bytes → to_be_bytes w64 (number_at w64 at bytes) ++ drop (at + 8) bytes ≡ drop at bytes
field_8 bytes at le fits =
    ap (λ (x : List ℕ). x ++ drop (at + 8) bytes) (be_bytes_8 (slice_range bytes at (at + 8)) _ (range_len bytes at 8 le) (range_fits bytes at (at + 8) fits) refl) ∙ sym (drop_split bytes at (at + 8) (omega arith))

pub header_back : (bytes : List ℕ) → 32 ≤ length bytes → IsBytes bytes → layout (header_at bytes) ++ drop 32 bytes ≡ bytes
unfolding layout header_at
header_back bytes le fits =
    let e28 = field_4 bytes 28 (omega arith) fits in
    let e24 = ap (λ (x : List ℕ). to_be_bytes w32 (number_at w32 24 bytes) ++ x) e28 ∙ field_4 bytes 24 (omega arith) fits in
    let e16 = ap (λ (x : List ℕ). to_be_bytes w64 (number_at w64 16 bytes) ++ x) e24 ∙ field_8 bytes 16 (omega arith) fits in
    let e12 = ap (λ (x : List ℕ). to_be_bytes w32 (number_at w32 12 bytes) ++ x) e16 ∙ field_4 bytes 12 (omega arith) fits in
    let e8 = ap (λ (x : List ℕ). to_be_bytes w32 (number_at w32 8 bytes) ++ x) e12 ∙ field_4 bytes 8 (omega arith) fits in
    let e6 = ap (λ (x : List ℕ). to_be_bytes w16 (number_at w16 6 bytes) ++ x) e8 ∙ field_2 bytes 6 (omega arith) fits in
    let e4 = ap (λ (x : List ℕ). to_be_bytes w16 (number_at w16 4 bytes) ++ x) e6 ∙ field_2 bytes 4 (omega arith) fits in
    let e2 = ap (λ (x : List ℕ). to_be_bytes w16 (number_at w16 2 bytes) ++ x) e4 ∙ field_2 bytes 2 (omega arith) fits in
    ap (λ (x : List ℕ). get_or bytes 0 0 ∷ get_or bytes 1 0 ∷ x) e2
    ∙ ap (λ (x : List ℕ). get_or bytes 0 0 ∷ x) (sym (drop_more bytes 1 0 (omega arith)))
    ∙ sym (drop_more bytes 0 0 (omega arith))

pub header_fits : (bytes : List ℕ) → IsBytes bytes → ((header_at bytes).serial < 2 ^ 32) × ((header_at bytes).number < 2 ^ 64)
unfolding header_at
header_fits bytes fits =
    let four = range_fits bytes 12 16 fits in
    let eight = range_fits bytes 16 24 fits in
    (omega (arith, four 0, four 1, four 2, four 3), omega (arith, eight 0, eight 1, eight 2, eight 3, eight 4, eight 5, eight 6, eight 7))
