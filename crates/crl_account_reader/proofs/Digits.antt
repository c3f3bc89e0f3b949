-- A number that was written is read again.
use Rattle.std.proofs.Common.{◌≡◌, ℕ, suc, ◌+◌, ◌-◌, ◌*◌, ◌/◌, ◌%◌, ◌^◌, ◌<◌, ◌≤◌, Bool, true, false, cond, eqb, leb, ltb, ◌&&◌, List, [], ◌∷◌, ◌++◌, get_or, Option, Some, None, refl, ap, ◌∙◌, arith, ℤ, pos, negsuc}
use Rattle.std.specs.Prelude.{decimal, FitsSigned}
use Rattle.std.specs.Fmt.{signed_decimal}
use Rattle.std.specs.Int.{w64, w128}
use Rattle.std.specs.Int.Signed.{mag}
use Rattle.std.proofs.lemmas.Bool.{le-leb, lt-ltb, ne_eqb}
use Rattle.std.proofs.lemmas.Fmt.{decimal_by_steps_wide}
use Rattle.crl_account_reader.specs.Reading.{◌>>=◌, digits_from, number_of, value_of}

tested : (test : Bool) (all front : Option ℕ) (f : ℕ → Option ℕ) → all ≡ (front >>= f) → cond test all None ≡ (cond test front None >>= f)
tested true all front f e = e
tested false all front f e = refl

digits_from-append : (limit v : ℕ) (xs ys : List ℕ) → digits_from limit v (xs ++ ys) ≡ (digits_from limit v xs >>= λ w. digits_from limit w ys)
unfolding digits_from
digits_from-append limit v [] ys = refl
digits_from-append limit v (b ∷ bs) ys = tested ((leb 48 b && leb b 57) && ltb (v * 10 + (b - 48)) limit) (digits_from limit (v * 10 + (b - 48)) (bs ++ ys)) (digits_from limit (v * 10 + (b - 48)) bs) (λ w. digits_from limit w ys) (digits_from-append limit (v * 10 + (b - 48)) bs ys)

digit_again : (limit v d : ℕ) → d < 10 → v * 10 + d < limit → digits_from limit v ((48 + d) ∷ []) ≡ Some (v * 10 + d)
unfolding digits_from
digit_again limit v d small lt =
    let value : (48 + d) - 48 ≡ d = omega arith in
    let low : leb 48 (48 + d) ≡ true = le-leb 48 (48 + d) (omega arith) in
    let high : leb (48 + d) 57 ≡ true = le-leb (48 + d) 57 (omega arith) in
    let below : ltb (v * 10 + d) limit ≡ true = lt-ltb (v * 10 + d) limit lt in
    rw (value, low, high, below) refl

pub number_again : (limit n : ℕ) → n < limit → n < 10 ^ 64 → number_of limit (decimal n) ≡ Some n
unfolding number_of
number_again limit n lt wide = decimal_by_steps_wide (λ m ds. m < limit → digits_from limit 0 ds ≡ Some m) one more n wide lt where
  one : (m : ℕ) → m < 10 → m < limit → digits_from limit 0 ((48 + m) ∷ []) ≡ Some m
  one m small below = digit_again limit 0 m small (omega arith) ∙ ap (λ (k : ℕ). Some k) (omega arith)

  more : (m : ℕ) (ds : List ℕ) → 10 ≤ m → (m / 10 < limit → digits_from limit 0 ds ≡ Some (m / 10)) → m < limit → digits_from limit 0 (ds ++ ((48 + m % 10) ∷ [])) ≡ Some m
  more m ds large front below =
      let e : digits_from limit 0 ds ≡ Some (m / 10) = front (omega arith) in
      digits_from-append limit 0 ds ((48 + m % 10) ∷ [])
      ∙ ap (λ (o : Option ℕ). o >>= λ w. digits_from limit w ((48 + m % 10) ∷ [])) e
      ∙ digit_again limit (m / 10) (m % 10) (omega arith) (omega arith)
      ∙ ap (λ (k : ℕ). Some k) (omega arith)

-- the first digit
pub first_digit : (n : ℕ) → n < 10 ^ 64 → (48 ≤ get_or (decimal n) 0 0) × (get_or (decimal n) 0 0 ≤ 57)
first_digit n wide = decimal_by_steps_wide (λ m ds. (48 ≤ get_or ds 0 0) × (get_or ds 0 0 ≤ 57)) one more n wide where
  one : (m : ℕ) → m < 10 → (48 ≤ 48 + m) × (48 + m ≤ 57)
  one m small = (omega arith, omega arith)

  more : (m : ℕ) (ds : List ℕ) → 10 ≤ m → (48 ≤ get_or ds 0 0) × (get_or ds 0 0 ≤ 57) → (48 ≤ get_or (ds ++ ((48 + m % 10) ∷ [])) 0 0) × (get_or (ds ++ ((48 + m % 10) ∷ [])) 0 0 ≤ 57)
  more m [] large front = absurd (omega arith)
  more m (d ∷ ds) large front = front

pub positive_again : (bound n : ℕ) → n < bound → n < 10 ^ 64 → value_of bound (decimal n) ≡ Some (pos n)
unfolding value_of
positive_again bound n lt wide =
    let first = first_digit n wide in
    let other : eqb (get_or (decimal n) 0 0) 45 ≡ false = ne_eqb (get_or (decimal n) 0 0) 45 (omega arith) in
    rw (other, number_again bound n lt wide) refl

pub negative_again : (bound n : ℕ) → suc n ≤ bound → suc n < 10 ^ 64 → value_of bound (45 ∷ decimal (suc n)) ≡ Some (negsuc n)
unfolding value_of
negative_again bound n le wide = rw (number_again (bound + 1) (suc n) (omega arith) wide) refl

pub value_again : (bound : ℕ) (z : ℤ) → mag z < bound → bound < 10 ^ 64 → value_of bound (signed_decimal z) ≡ Some z
value_again bound (pos n) lt wide = positive_again bound n lt (omega arith)
value_again bound (negsuc n) lt wide = negative_again bound n (omega arith) (omega arith)

pub value_again64 : (z : ℤ) → FitsSigned w64 z → value_of (2 ^ 63) (signed_decimal z) ≡ Some z
value_again64 z fits = value_again (2 ^ 63) z (omega arith) (omega arith)

pub value_again128 : (z : ℤ) → FitsSigned w128 z → value_of (2 ^ 127) (signed_decimal z) ≡ Some z
value_again128 z fits = value_again (2 ^ 127) z (omega arith) (omega arith)
