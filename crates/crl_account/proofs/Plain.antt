-- The words that are written have no space and no line feed, so the spaces between them part them again.
use Rattle.std.proofs.Common.{◌≡◌, ℕ, zero, suc, ◌+◌, ◌/◌, ◌%◌, ◌^◌, ◌<◌, ◌≤◌, Bool, true, false, cond, eqb, ltb, ◌&&◌, List, [], ◌∷◌, ◌++◌, length, get_or, refl, ap, ◌∙◌, arith, ℤ, pos, negsuc, eq-eqb, append_assoc}
use Rattle.std.specs.Prelude.{decimal, codes, FitsSigned}
use Rattle.std.specs.Fmt.{signed_decimal}
use Rattle.std.specs.Int.{w64, w128}
use Rattle.std.specs.List.{onto_first}
use Rattle.std.specs.Int.Signed.{mag}
use Rattle.std.proofs.lemmas.Bool.{lt-ltb, ltb-true, ne_eqb}
use Rattle.std.proofs.lemmas.Fmt.{decimal_by_steps_wide}
use Rattle.std.proofs.lemmas.List.{append-nil}
use Rattle.hex.specs.Hex.{IsBytes, encode_lower, encode_with, lower_digits}
use Rattle.crl_model.specs.declared.name.Name.{Name}
use Rattle.crl_account.specs.Text.{name_text, spaced}
use Rattle.crl_account.specs.Parts.{parts}
use Rattle.crl_account.specs.Account.{FitsName}

-- each byte is above the space
abbrev pub plain : List ℕ → Bool
plain [] = true
plain (b ∷ bs) = ltb 32 b && plain bs

abbrev pub all_plain : List (List ℕ) → Bool
all_plain [] = true
all_plain (word ∷ words) = plain word && all_plain words

-- no byte is this one
abbrev pub avoids : ℕ → List ℕ → Bool
avoids byte [] = true
avoids byte (b ∷ bs) = cond (eqb b byte) false (avoids byte bs)

pub both : (a b : Bool) → a ≡ true → b ≡ true → (a && b) ≡ true
both true b p q = q
both false b p q = absurd cc

pub parted : (a b : Bool) → (a && b) ≡ true → (a ≡ true) × (b ≡ true)
parted true b p = (refl, p)
parted false b p = absurd cc

pub plain-append : (xs ys : List ℕ) → plain xs ≡ true → plain ys ≡ true → plain (xs ++ ys) ≡ true
plain-append [] ys p q = q
plain-append (b ∷ bs) ys p q = let h = parted (ltb 32 b) (plain bs) p in both (ltb 32 b) (plain (bs ++ ys)) h.0 (plain-append bs ys h.1 q)

pub avoids-append : (byte : ℕ) (xs ys : List ℕ) → avoids byte xs ≡ true → avoids byte ys ≡ true → avoids byte (xs ++ ys) ≡ true
avoids-append byte [] ys p q = q
avoids-append byte (b ∷ bs) ys p q = go (eqb b byte) (avoids-append byte bs ys) p where
  go : (test : Bool) → (avoids byte bs ≡ true → avoids byte ys ≡ true → avoids byte (bs ++ ys) ≡ true) → cond test false (avoids byte bs) ≡ true → cond test false (avoids byte (bs ++ ys)) ≡ true
  go true more p = absurd cc
  go false more p = more p q

pub plain_avoids : (byte : ℕ) (xs : List ℕ) → byte ≤ 32 → plain xs ≡ true → avoids byte xs ≡ true
plain_avoids byte [] le p = refl
plain_avoids byte (b ∷ bs) le p =
    let h = parted (ltb 32 b) (plain bs) p in
    let above : 32 < b = ltb-true 32 b h.0 in
    let e : eqb b byte ≡ false = ne_eqb b byte (omega arith) in
    rw e (plain_avoids byte bs le h.1)

-- ---- what is written

pub plain_decimal : (n : ℕ) → n < 10 ^ 64 → plain (decimal n) ≡ true
plain_decimal n wide = decimal_by_steps_wide (λ m ds. plain ds ≡ true) one more n wide where
  digit : (d : ℕ) → d < 10 → plain ((48 + d) ∷ []) ≡ true
  digit d small = both (ltb 32 (48 + d)) true (lt-ltb 32 (48 + d) (omega arith)) refl

  one : (m : ℕ) → m < 10 → plain ((48 + m) ∷ []) ≡ true
  one m small = digit m small

  more : (m : ℕ) (ds : List ℕ) → 10 ≤ m → plain ds ≡ true → plain (ds ++ ((48 + m % 10) ∷ [])) ≡ true
  more m ds large front = plain-append ds ((48 + m % 10) ∷ []) front (digit (m % 10) (omega arith))

-- digits have no colon
decimal_avoids : (n : ℕ) → n < 10 ^ 64 → avoids 58 (decimal n) ≡ true
decimal_avoids n wide = decimal_by_steps_wide (λ m ds. avoids 58 ds ≡ true) one more n wide where
  digit : (d : ℕ) → d < 10 → avoids 58 ((48 + d) ∷ []) ≡ true
  digit d small = let e : eqb (48 + d) 58 ≡ false = ne_eqb (48 + d) 58 (omega arith) in rw e refl

  one : (m : ℕ) → m < 10 → avoids 58 ((48 + m) ∷ []) ≡ true
  one m small = digit m small

  more : (m : ℕ) (ds : List ℕ) → 10 ≤ m → avoids 58 ds ≡ true → avoids 58 (ds ++ ((48 + m % 10) ∷ [])) ≡ true
  more m ds large front = avoids-append 58 ds ((48 + m % 10) ∷ []) front (digit (m % 10) (omega arith))

pub plain_signed : (z : ℤ) → mag z + 1 < 10 ^ 64 → plain (signed_decimal z) ≡ true
plain_signed (pos n) wide = plain_decimal n (omega arith)
plain_signed (negsuc n) wide = plain_decimal (suc n) (omega arith)

pub plain_signed64 : (z : ℤ) → FitsSigned w64 z → plain (signed_decimal z) ≡ true
plain_signed64 z fits = plain_signed z (omega arith)

pub plain_signed128 : (z : ℤ) → FitsSigned w128 z → plain (signed_decimal z) ≡ true
plain_signed128 z fits = plain_signed z (omega arith)

plain_at : (xs : List ℕ) (k : ℕ) → plain xs ≡ true → k < length xs → ltb 32 (get_or xs k 0) ≡ true
plain_at [] k p lt = absurd (omega arith)
plain_at (b ∷ bs) zero p lt = (parted (ltb 32 b) (plain bs) p).0
plain_at (b ∷ bs) (suc k) p lt = plain_at bs k (parted (ltb 32 b) (plain bs) p).1 (omega arith)

pub plain_hex : (bytes : List ℕ) → IsBytes bytes → plain (encode_lower bytes) ≡ true
unfolding encode_with
plain_hex [] fits = refl
plain_hex (b ∷ bs) fits =
    let small : b < 256 = fits 0 in
    let high : ltb 32 (get_or lower_digits (b / 16) 0) ≡ true = plain_at lower_digits (b / 16) refl (omega arith) in
    let low : ltb 32 (get_or lower_digits (b % 16) 0) ≡ true = plain_at lower_digits (b % 16) refl (omega arith) in
    both (ltb 32 (get_or lower_digits (b / 16) 0)) (ltb 32 (get_or lower_digits (b % 16) 0) && plain (encode_lower bs)) high
    (both (ltb 32 (get_or lower_digits (b % 16) 0)) (plain (encode_lower bs)) low (plain_hex bs (λ i. fits (suc i))))

pub plain_name : (name : Name) → FitsName name → plain (name_text name) ≡ true
plain_name name fits =
    plain-append (decimal name.home ++ codes ":") (decimal name.serial)
    (plain-append (decimal name.home) (codes ":") (plain_decimal name.home (omega (arith, fits.0))) refl)
    (plain_decimal name.serial (omega (arith, fits.1)))

-- ---- words are parted again

pub parts_word : (byte : ℕ) (word rest : List ℕ) → avoids byte word ≡ true → parts byte (word ++ byte ∷ rest) ≡ word ∷ parts byte rest
parts_word byte [] rest p = let e : eqb byte byte ≡ true = eq-eqb byte byte refl in rw e refl
parts_word byte (b ∷ bs) rest p = go (eqb b byte) (parts_word byte bs rest) p where
  go : (test : Bool) → (avoids byte bs ≡ true → parts byte (bs ++ byte ∷ rest) ≡ bs ∷ parts byte rest) → cond test false (avoids byte bs) ≡ true
      → cond test ([] ∷ parts byte (bs ++ byte ∷ rest)) (onto_first b (parts byte (bs ++ byte ∷ rest))) ≡ (b ∷ bs) ∷ parts byte rest
  go true more p = absurd cc
  go false more p = rw (more p) refl

parts_one : (byte : ℕ) (word : List ℕ) → avoids byte word ≡ true → parts byte word ≡ word ∷ []
parts_one byte [] p = refl
parts_one byte (b ∷ bs) p = go (eqb b byte) (parts_one byte bs) p where
  go : (test : Bool) → (avoids byte bs ≡ true → parts byte bs ≡ bs ∷ []) → cond test false (avoids byte bs) ≡ true
      → cond test ([] ∷ parts byte bs) (onto_first b (parts byte bs)) ≡ (b ∷ bs) ∷ []
  go true more p = absurd cc
  go false more p = rw (more p) refl

-- the numbers of a name
pub name_parts : (name : Name) → FitsName name → parts 58 (name_text name) ≡ decimal name.home ∷ decimal name.serial ∷ []
name_parts name fits =
    ap (parts 58) (append_assoc (decimal name.home) (codes ":") (decimal name.serial))
    ∙ parts_word 58 (decimal name.home) (decimal name.serial) (decimal_avoids name.home (omega (arith, fits.0)))
    ∙ ap (λ (ps : List (List ℕ)). decimal name.home ∷ ps) (parts_one 58 (decimal name.serial) (decimal_avoids name.serial (omega (arith, fits.1))))

-- the words of a line
pub parts_spaced : (first : List ℕ) (words : List (List ℕ)) → plain first ≡ true → all_plain words ≡ true → parts 32 (first ++ spaced words) ≡ first ∷ words
parts_spaced first [] p q = ap (parts 32) (append-nil first) ∙ parts_one 32 first (plain_avoids 32 first (omega arith) p)
parts_spaced first (word ∷ words) p q =
    let h = parted (plain word) (all_plain words) q in
    parts_word 32 first (word ++ spaced words) (plain_avoids 32 first (omega arith) p)
    ∙ ap (λ (ps : List (List ℕ)). first ∷ ps) (parts_spaced word words h.0 h.1)

-- a line has no line feed
pub spaced_avoids : (words : List (List ℕ)) → all_plain words ≡ true → avoids 10 (spaced words) ≡ true
spaced_avoids [] p = refl
spaced_avoids (word ∷ words) p =
    let h = parted (plain word) (all_plain words) p in
    avoids-append 10 word (spaced words) (plain_avoids 10 word (omega arith) h.0) (spaced_avoids words h.1)
