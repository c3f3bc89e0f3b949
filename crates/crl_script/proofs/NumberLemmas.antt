-- What is printed for a number, a value, bytes or a label is read as that.
use Rattle.std.proofs.Common.{◌≡◌, ℕ, ◌+◌, ◌-◌, ◌*◌, ◌/◌, ◌%◌, ◌^◌, ◌<◌, ◌≤◌, Bool, true, false, suc, List, [], ◌∷◌, ◌++◌, length, Some, Ok, refl, sym, ap, ◌∙◌, arith}
use Rattle.std.specs.Prelude.{nat_le, ◌==◌, codes, decimal, ℤ, pos, negsuc, slice_index}
use Rattle.std.specs.Fmt.{signed_decimal}
use Rattle.std.specs.List.{list_all}
use Rattle.std.proofs.lemmas.Fmt.{decimal_by_steps, length-decimal-le, decimal_nonempty}
use Rattle.std.proofs.lemmas.List.{length-append}
use Rattle.hex.specs.Hex.{encode_lower, encode_with, lower_digits, IsBytes}
use Rattle.hex.proofs.HexLemmas.{decode_of-encode_lower, IsDigits-lower_digits}
use Rattle.crl_script.specs.declared.fault.ScriptWhy.{ScriptWhy}
use Rattle.crl_script.specs.declared.fault.ScriptWhy.TheVariants.{BadNumber}
use Rattle.crl_script.specs.Again.{IsValue}
use Rattle.crl_script.specs.Canonical.{label_text}
use Rattle.crl_script.specs.Text.{is_word}
use Rattle.crl_script.specs.Words.{is_digit, is_label, is_label_byte, digits_from, natural_of, number_of, at_most, value_of, positive, negative, bytes_of, decoded}
use Rattle.crl_script.proofs.SpellLemmas.{is_ink, IsInk, and_left, and_right, all_append}

digit_more : (ds : List ℕ) (a m d : ℕ) → digits_from a ds ≡ Some m → is_digit d ≡ true → digits_from a (ds ++ d ∷ []) ≡ Some (m * 10 + (d - 48))
digit_more [] a m d h k = let same : a ≡ m = cc h in grind arith
digit_more (x ∷ xs) a m d h k = go (is_digit x) refl (λ rest. digit_more xs (a * 10 + (x - 48)) m d rest k) where
  go : (b : Bool) → is_digit x ≡ b
      → (digits_from (a * 10 + (x - 48)) xs ≡ Some m → digits_from (a * 10 + (x - 48)) (xs ++ d ∷ []) ≡ Some (m * 10 + (d - 48)))
      → digits_from a ((x ∷ xs) ++ d ∷ []) ≡ Some (m * 10 + (d - 48))
  go true e again = rw e (again (rw e at h))
  go false e again = let none = rw e at h in cc none

-- the digits of a number
pub record IsDecimal (n : ℕ) (ds : List ℕ) : Type 0 where
  pub value : digits_from 0 ds ≡ Some n
  pub digits : list_all is_digit ds ≡ true

one_digit : (n : ℕ) → n < 10 → IsDecimal n ((48 + n) ∷ [])
one_digit n h =
    let digit : is_digit (48 + n) ≡ true = grind arith in
    record { value = digit_more [] 0 0 (48 + n) refl digit ∙ ap Some (omega arith); digits = rw digit refl }

more_digits : (n : ℕ) (ds : List ℕ) → 10 ≤ n → IsDecimal (n / 10) ds → IsDecimal n (ds ++ ((48 + n % 10) ∷ []))
more_digits n ds h before =
    let digit : is_digit (48 + n % 10) ≡ true = grind arith in
    record {
      value = digit_more ds 0 (n / 10) (48 + n % 10) before.value digit ∙ ap Some (omega arith);
      digits = all_append is_digit ds ((48 + n % 10) ∷ []) before.digits (rw digit refl);
    }

pub is_decimal : (n : ℕ) → n < 2 ^ 64 → IsDecimal n (decimal n)
is_decimal n h = decimal_by_steps IsDecimal one_digit more_digits n h

pub natural_again : (n : ℕ) → n < 2 ^ 64 → natural_of (decimal n) ≡ Some n
unfolding natural_of
natural_again n h =
    let short : length (decimal n) ≤ 20 = length-decimal-le 20 n (omega arith) (omega arith) h in
    let some : 0 < length (decimal n) = decimal_nonempty n h in
    let d = is_decimal n h in
    grind (arith, d.value)

pub number_again : (limit n : ℕ) (why : ScriptWhy) → n ≤ limit → n < 2 ^ 64 → number_of limit why (decimal n) ≡ Ok n
unfolding number_of
number_again limit n why h k = ap (at_most limit why) (natural_again n k) ∙ grind arith

without_minus : (ds : List ℕ) → list_all is_digit ds ≡ true → 0 < length ds → value_of ds ≡ positive (number_of 9223372036854775807 BadNumber ds)
unfolding value_of
without_minus [] h k = absurd (omega arith)
without_minus (b ∷ bs) h k = let digit = and_left (is_digit b) (list_all is_digit bs) h in grind arith

pub value_again : (z : ℤ) → IsValue z → value_of (signed_decimal z) ≡ Ok z
unfolding value_of
value_again (pos n) h =
    without_minus (decimal n) (is_decimal n (omega arith)).digits (decimal_nonempty n (omega arith))
    ∙ ap positive (number_again 9223372036854775807 n BadNumber (omega arith) (omega arith))
value_again (negsuc n) h = ap negative (number_again 9223372036854775808 (suc n) BadNumber (omega arith) (omega arith))

not_zero : (n : ℕ) → 0 < n → (n == 0) ≡ false
not_zero n h = grind arith

hex_some : (bs : List ℕ) → 0 < length bs → (length (encode_lower bs) == 0) ≡ false
unfolding encode_with
hex_some [] h = absurd (omega arith)
hex_some (b ∷ bs) h = not_zero (length (encode_lower (b ∷ bs))) (omega arith)

pub bytes_again : (bs : List ℕ) → 0 < length bs → IsBytes bs → bytes_of (encode_lower bs) ≡ Ok bs
unfolding bytes_of
bytes_again bs h k = rw (hex_some bs h) (ap decoded (decode_of-encode_lower bs k))

digits_ink : (ds : List ℕ) → list_all is_digit ds ≡ true → list_all is_ink ds ≡ true
digits_ink [] h = refl
digits_ink (b ∷ bs) h =
    let digit = and_left (is_digit b) (list_all is_digit bs) h in
    let here : is_ink b ≡ true = grind arith in
    rw here (digits_ink bs (and_right (is_digit b) (list_all is_digit bs) h))

some_word : (ds : List ℕ) → 0 < length ds → is_word ds ≡ true
some_word [] h = absurd (omega arith)
some_word (b ∷ bs) h = refl

pub decimal_ink : (n : ℕ) → n < 2 ^ 64 → IsInk (decimal n)
decimal_ink n h = (some_word (decimal n) (decimal_nonempty n h), digits_ink (decimal n) (is_decimal n h).digits)

pub signed_ink : (z : ℤ) → IsValue z → IsInk (signed_decimal z)
signed_ink (pos n) h = decimal_ink n (omega arith)
signed_ink (negsuc n) h = (refl, (decimal_ink (suc n) (omega arith)).1)

hex_ink : (d : ℕ) → d < 16 → is_ink (slice_index lower_digits d) ≡ true
hex_ink d h = let read = IsDigits-lower_digits d h in grind arith

hex_all_ink : (bs : List ℕ) → IsBytes bs → list_all is_ink (encode_lower bs) ≡ true
unfolding encode_with
hex_all_ink [] h = refl
hex_all_ink (b ∷ bs) h =
    let small : b < 256 = h 0 in
    let high : is_ink (slice_index lower_digits (b / 16)) ≡ true = hex_ink (b / 16) (omega arith) in
    let low : is_ink (slice_index lower_digits (b % 16)) ≡ true = hex_ink (b % 16) (omega arith) in
    rw (high, low) (hex_all_ink bs (λ k. h (suc k)))

hex_word : (bs : List ℕ) → 0 < length bs → is_word (encode_lower bs) ≡ true
unfolding encode_with
hex_word [] h = absurd (omega arith)
hex_word (b ∷ bs) h = refl

pub hex_text_ink : (bs : List ℕ) → 0 < length bs → IsBytes bs → IsInk (encode_lower bs)
hex_text_ink bs h k = (hex_word bs h, hex_all_ink bs k)

digits_label : (ds : List ℕ) → list_all is_digit ds ≡ true → list_all is_label_byte ds ≡ true
digits_label [] h = refl
digits_label (b ∷ bs) h =
    let digit = and_left (is_digit b) (list_all is_digit bs) h in
    let here : is_label_byte b ≡ true = grind arith in
    rw here (digits_label bs (and_right (is_digit b) (list_all is_digit bs) h))

pub label_is_label : (home serial : ℕ) → home < 64 → serial < 2 ^ 64 → is_label (label_text home serial) ≡ true
unfolding is_label label_text
label_is_label home serial h k =
    let rest = decimal home ++ (codes "_" ++ decimal serial) in
    let home_digits = is_decimal home (omega arith) in
    let serial_digits = is_decimal serial k in
    let all : list_all is_label_byte rest ≡ true =
    all_append is_label_byte (decimal home) (codes "_" ++ decimal serial) (digits_label (decimal home) home_digits.digits) (digits_label (decimal serial) serial_digits.digits) in
    let home_short : length (decimal home) ≤ 2 = length-decimal-le 2 home (omega arith) (omega arith) (omega arith) in
    let serial_short : length (decimal serial) ≤ 20 = length-decimal-le 20 serial (omega arith) (omega arith) k in
    let short : nat_le (length rest) 31 ≡ true = let sum = length-append (decimal home) (codes "_" ++ decimal serial) in grind arith in
    rw (short, all) refl

pub label_ink : (home serial : ℕ) → home < 64 → serial < 2 ^ 64 → IsInk (label_text home serial)
unfolding label_text
label_ink home serial h k =
    (refl, all_append is_ink (decimal home) (codes "_" ++ decimal serial) (decimal_ink home (omega arith)).1 (decimal_ink serial k).1)

split_label : (xs ys us vs : List ℕ) → list_all is_digit xs ≡ true → list_all is_digit ys ≡ true → xs ++ 95 ∷ us ≡ ys ++ 95 ∷ vs → (xs ≡ ys) × (us ≡ vs)
split_label [] [] us vs h k e = (refl, cc e)
split_label [] (y ∷ ys) us vs h k e =
    let first : 95 ≡ y = cc e in
    let digit = and_left (is_digit y) (list_all is_digit ys) k in
    absurd (grind arith)
split_label (x ∷ xs) [] us vs h k e =
    let first : x ≡ 95 = cc e in
    let digit = and_left (is_digit x) (list_all is_digit xs) h in
    absurd (grind arith)
split_label (x ∷ xs) (y ∷ ys) us vs h k e =
    let first : x ≡ y = cc e in
    let rest : xs ++ 95 ∷ us ≡ ys ++ 95 ∷ vs = cc e in
    let more = split_label xs ys us vs (and_right (is_digit x) (list_all is_digit xs) h) (and_right (is_digit y) (list_all is_digit ys) k) rest in
    (cc (first, more.0), more.1)

decimal_same : (m n : ℕ) → m < 2 ^ 64 → n < 2 ^ 64 → decimal m ≡ decimal n → m ≡ n
decimal_same m n h k e =
    let both : Some m ≡ Some n = sym (is_decimal m h).value ∙ ap (digits_from 0) e ∙ (is_decimal n k).value in
    cc both

pub label_same : (i k j m : ℕ) → i < 64 → k < 2 ^ 64 → j < 64 → m < 2 ^ 64 → label_text i k ≡ label_text j m → (i ≡ j) × (k ≡ m)
unfolding label_text
label_same i k j m hi hk hj hm e =
    let rest : decimal i ++ 95 ∷ decimal k ≡ decimal j ++ 95 ∷ decimal m = cc e in
    let parts = split_label (decimal i) (decimal j) (decimal k) (decimal m) (is_decimal i (omega arith)).digits (is_decimal j (omega arith)).digits rest in
    (decimal_same i j (omega arith) (omega arith) parts.0, decimal_same k m hk hm parts.1)
