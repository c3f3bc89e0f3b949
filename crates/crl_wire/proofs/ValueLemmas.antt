-- Numbers of 16 bytes are two of 8. A value is read from its bytes, and its bytes are those it was read from.
use Rattle.std.proofs.Common.{◌≡◌, ℕ, ◌+◌, ◌*◌, ◌/◌, ◌%◌, ◌^◌, ◌<◌, List, [], ◌∷◌, ◌++◌, length, get_or, take, drop, refl, sym, ap, ◌∙◌, arith, inl, inr}
use Rattle.std.specs.Prelude.{ℤ, FitsSigned}
use Rattle.std.specs.Int.{w64, w128, from_be_bytes, to_be_bytes, cast_signed, cast_unsigned}
use lib.Pow.{mod-mod-pow}
use Rattle.std.proofs.Math.Facts.{Fits-of_z, sfits_to_z}
use Rattle.std.proofs.lemmas.Int.{to_z-of_z, of_z-to_z}
use Rattle.std.proofs.lemmas.Bool.{cases_lt}
use Rattle.std.proofs.lemmas.List.{take-append-drop, length-take, length-drop, get_or-drop, get_or-take, get_or_past}
use Rattle.std.proofs.lemmas.Nat.{shr-shr, field_of, div-mul-add, mod-mul-add, div-add-mod', be_bytes_8, from_be_bytes-to_be_bytes_8}
use Rattle.crl_wire.specs.Frame.{value_bytes, total_bytes}
use Rattle.crl_wire.specs.Decoding.{value_from, total_from}

abbrev pub IsBytes : List ℕ → Type 0
IsBytes bytes = (i : ℕ) → get_or bytes i 0 < 256

pub IsBytes-drop : (n : ℕ) (bytes : List ℕ) → IsBytes bytes → IsBytes (drop n bytes)
IsBytes-drop n bytes h i = rw get_or-drop (h (n + i))

pub IsBytes-take : (n : ℕ) (bytes : List ℕ) → IsBytes bytes → IsBytes (take n bytes)
IsBytes-take n bytes h i =
    elim (cases_lt i n) [
      | inl lt ↦ rw (get_or-take n bytes i 0 lt) (h i)
      | inr le ↦ rw (get_or_past (take n bytes) i 0 (omega (arith, length-take n bytes))) (omega arith)
    ]

-- ---- 16 bytes

low_byte : (n c k : ℕ) → n % 2 ^ (c + 8 + k) / 2 ^ k % 256 ≡ n / 2 ^ k % 256
low_byte n c k = ap (λ (x : ℕ). x % 256) (field_of n (c + 8) k) ∙ mod-mod-pow (n / 2 ^ k) c 8

halves : (n : ℕ) → to_be_bytes w128 n ≡ to_be_bytes w64 (n / 2 ^ 64) ++ to_be_bytes w64 (n % 2 ^ 64)
halves n =
    let high : (k : ℕ) → n / 2 ^ (64 + k) % 256 ≡ n / 2 ^ 64 / 2 ^ k % 256 = λ (k : ℕ). ap (λ (x : ℕ). x % 256) (sym (shr-shr n 64 k)) in
    let h7 = high 56 in let h6 = high 48 in let h5 = high 40 in let h4 = high 32 in
    let h3 = high 24 in let h2 = high 16 in let h1 = high 8 in
    let l7 = sym (low_byte n 0 56) in let l6 = sym (low_byte n 8 48) in let l5 = sym (low_byte n 16 40) in let l4 = sym (low_byte n 24 32) in
    let l3 = sym (low_byte n 32 24) in let l2 = sym (low_byte n 40 16) in let l1 = sym (low_byte n 48 8) in
    let l0 : n % 256 ≡ n % 2 ^ 64 % 256 = omega arith in
    λ i. h7 i ∷ h6 i ∷ h5 i ∷ h4 i ∷ h3 i ∷ h2 i ∷ h1 i ∷ (n / 2 ^ 64 % 256) ∷ l7 i ∷ l6 i ∷ l5 i ∷ l4 i ∷ l3 i ∷ l2 i ∷ l1 i ∷ l0 i ∷ []

joined : (a b c d e f g h p q r s t u v w : ℕ) → from_be_bytes w128 (a ∷ b ∷ c ∷ d ∷ e ∷ f ∷ g ∷ h ∷ p ∷ q ∷ r ∷ s ∷ t ∷ u ∷ v ∷ w ∷ [])
    ≡ from_be_bytes w64 (a ∷ b ∷ c ∷ d ∷ e ∷ f ∷ g ∷ h ∷ []) * 2 ^ 64 + from_be_bytes w64 (p ∷ q ∷ r ∷ s ∷ t ∷ u ∷ v ∷ w ∷ [])
joined a b c d e f g h p q r s t u v w = omega arith

again_16 : (n : ℕ) → n < 2 ^ 128 → from_be_bytes w128 (to_be_bytes w128 n) ≡ n
again_16 n lt =
    let high : from_be_bytes w64 (to_be_bytes w64 (n / 2 ^ 64)) ≡ n / 2 ^ 64 = from_be_bytes-to_be_bytes_8 (n / 2 ^ 64) (omega arith) in
    let low : from_be_bytes w64 (to_be_bytes w64 (n % 2 ^ 64)) ≡ n % 2 ^ 64 = from_be_bytes-to_be_bytes_8 (n % 2 ^ 64) (omega arith) in
    ap (from_be_bytes w128) (halves n) ∙ joined _ _ _ _ _ _ _ _ _ _ _ _ _ _ _ _ ∙ ap (λ (x : ℕ). x * 2 ^ 64 + from_be_bytes w64 (to_be_bytes w64 (n % 2 ^ 64))) high ∙ ap (λ (x : ℕ). n / 2 ^ 64 * 2 ^ 64 + x) low ∙ div-add-mod' n (2 ^ 64)

parts_16 : (bytes : List ℕ) → from_be_bytes w128 bytes ≡ from_be_bytes w64 (take 8 bytes) * 2 ^ 64 + from_be_bytes w64 (drop 8 bytes)
parts_16 bytes =
    let t : (i : ℕ) → i < 8 → get_or (take 8 bytes) i 0 ≡ get_or bytes i 0 = λ (i : ℕ). λ (lt : i < 8). get_or-take 8 bytes i 0 lt in
    let d : (i : ℕ) → get_or (drop 8 bytes) i 0 ≡ get_or bytes (8 + i) 0 = λ (i : ℕ). get_or-drop 8 bytes i 0 in
    rw (t 0 (omega arith), t 1 (omega arith), t 2 (omega arith), t 3 (omega arith), t 4 (omega arith), t 5 (omega arith), t 6 (omega arith), t 7 (omega arith), d 0, d 1, d 2, d 3, d 4, d 5, d 6, d 7)
    (joined (get_or bytes 0 0) (get_or bytes 1 0) (get_or bytes 2 0) (get_or bytes 3 0) (get_or bytes 4 0) (get_or bytes 5 0) (get_or bytes 6 0) (get_or bytes 7 0)
    (get_or bytes 8 0) (get_or bytes 9 0) (get_or bytes 10 0) (get_or bytes 11 0) (get_or bytes 12 0) (get_or bytes 13 0) (get_or bytes 14 0) (get_or bytes 15 0))

below_8 : (bytes : List ℕ) → IsBytes bytes → from_be_bytes w64 bytes < 2 ^ 64
below_8 bytes fits = omega (arith, fits 0, fits 1, fits 2, fits 3, fits 4, fits 5, fits 6, fits 7)

below_16 : (bytes : List ℕ) → IsBytes bytes → from_be_bytes w128 bytes < 2 ^ 128
below_16 bytes fits =
    let high = below_8 (take 8 bytes) (IsBytes-take 8 bytes fits) in
    let low = below_8 (drop 8 bytes) (IsBytes-drop 8 bytes fits) in
    rw (parts_16 bytes) (sum_below (from_be_bytes w64 (take 8 bytes)) (from_be_bytes w64 (drop 8 bytes)) high low)
  where
    sum_below : (a b : ℕ) → a < 2 ^ 64 → b < 2 ^ 64 → a * 2 ^ 64 + b < 2 ^ 128
    sum_below a b p q = omega arith

back_16 : (bytes : List ℕ) → length bytes ≡ 16 → IsBytes bytes → to_be_bytes w128 (from_be_bytes w128 bytes) ≡ bytes
back_16 bytes len fits =
    let high = from_be_bytes w64 (take 8 bytes) in
    let low = from_be_bytes w64 (drop 8 bytes) in
    let small : low < 2 ^ 64 = below_8 (drop 8 bytes) (IsBytes-drop 8 bytes fits) in
    let first : to_be_bytes w64 high ≡ take 8 bytes = be_bytes_8 (take 8 bytes) high (omega (arith, length-take 8 bytes)) (IsBytes-take 8 bytes fits) refl in
    let second : to_be_bytes w64 low ≡ drop 8 bytes = be_bytes_8 (drop 8 bytes) low (omega (arith, length-drop 8 bytes)) (IsBytes-drop 8 bytes fits) refl in
    ap (to_be_bytes w128) (parts_16 bytes) ∙ halves (high * 2 ^ 64 + low)
    ∙ ap (λ (x : ℕ). to_be_bytes w64 x ++ to_be_bytes w64 ((high * 2 ^ 64 + low) % 2 ^ 64)) (div-mul-add high (2 ^ 64) low small)
    ∙ ap (λ (x : ℕ). to_be_bytes w64 high ++ to_be_bytes w64 x) (mod-mul-add high (2 ^ 64) low small)
    ∙ ap (λ (x : List ℕ). x ++ to_be_bytes w64 low) first ∙ ap (λ (x : List ℕ). take 8 bytes ++ x) second ∙ take-append-drop 8 bytes

-- ---- values

pub value_again : (v : ℤ) → FitsSigned w64 v → value_from (value_bytes v) ≡ v
value_again v fits = ap (cast_signed w64) (from_be_bytes-to_be_bytes_8 (cast_unsigned w64 v) (Fits-of_z {w = w64} {z = v} fits).fits) ∙ to_z-of_z w64 v fits

pub value_back : (body : List ℕ) → length body ≡ 8 → IsBytes body → value_bytes (value_from body) ≡ body
value_back body len fits = ap (to_be_bytes w64) (of_z-to_z w64 (from_be_bytes w64 body) (below_8 body fits)) ∙ be_bytes_8 body (from_be_bytes w64 body) len fits refl

pub value_fits : (body : List ℕ) → IsBytes body → FitsSigned w64 (value_from body)
value_fits body fits = sfits_to_z {w = w64} {n = from_be_bytes w64 body} (record { fits = below_8 body fits })

pub total_again : (v : ℤ) → FitsSigned w128 v → total_from (total_bytes v) ≡ v
total_again v fits = ap (cast_signed w128) (again_16 (cast_unsigned w128 v) (Fits-of_z {w = w128} {z = v} fits).fits) ∙ to_z-of_z w128 v fits

pub total_back : (body : List ℕ) → length body ≡ 16 → IsBytes body → total_bytes (total_from body) ≡ body
total_back body len fits = ap (to_be_bytes w128) (of_z-to_z w128 (from_be_bytes w128 body) (below_16 body fits)) ∙ back_16 body len fits

pub total_fits : (body : List ℕ) → IsBytes body → FitsSigned w128 (total_from body)
total_fits body fits = sfits_to_z {w = w128} {n = from_be_bytes w128 body} (record { fits = below_16 body fits })
