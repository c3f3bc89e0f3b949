-- What the words of a line may stand for. This is a guess: what is guessed is written again, and held
-- against the line.
use Rattle.std.specs.Prelude.{ℕ, ◌+◌, ◌-◌, ◌*◌, ◌^◌, nat_le, nat_lt, ◌==◌, ◌&&◌, if◌then◌else◌, List, [], ◌∷◌, drop, slice_index, Option, Some, None, Result, Ok, Err, ◌≡◌, ℤ, pos}
use Rattle.std.specs.Result.{result_ok}
use Rattle.std.proofs.Math.IntN.{neg_ℤ}
use Rattle.hex.specs.Hex.{decode_of}
use Rattle.crl_model.specs.declared.name.Name.{Name}
use Rattle.crl_account.specs.Parts.{parts}
use Rattle.crl_account_reader.specs.declared.fault.LineFault.{LineFault}
use Rattle.crl_account_reader.specs.declared.fault.LineFault.TheVariants as faults

-- the parts of a rest that may be missing
abbrev pub parts_in : ℕ → Option (List ℕ) → List (List ℕ)
parts_in separator None = []
parts_in separator (Some text) = parts separator text

infixl 10 ◌>>=◌
abbrev pub ◌>>=◌ : {A B : Type 0} → Option A → (A → Option B) → Option B
None >>= f = None
(Some x) >>= f = f x

-- What a function returned is what reading gives, unless memory ran out.
abbrev pub Gives : {A : Type 0} → Result A LineFault → Option A → Type 0
Gives (Ok x) read = read ≡ Some x
Gives (Err faults.Bad) read = read ≡ None
Gives (Err faults.OutOfMemory) read = Unit {0}

-- the elements of a list of so many
abbrev pub nothing : {A : Type 0} → List A → Option Unit
nothing [] = Some tt
nothing (a ∷ rest) = None

abbrev pub only : {A : Type 0} → List A → Option A
only [] = None
only (a ∷ []) = Some a
only (a ∷ b ∷ rest) = None

abbrev pub two : {A : Type 0} → List A → Option (A × A)
two [] = None
two (a ∷ rest) = only rest >>= λ b. Some (a, b)

abbrev pub three : {A : Type 0} → List A → Option (A × A × A)
three [] = None
three (a ∷ rest) = two rest >>= λ p. Some (a, p.0, p.1)

-- the number below the limit that the digits stand for, behind those of value
unfoldable pub digits_from : ℕ → ℕ → List ℕ → Option ℕ
digits_from limit value [] = Some value
digits_from limit value (b ∷ bs) =
    if (nat_le 48 b && nat_le b 57) && nat_lt (value * 10 + (b - 48)) limit
    then digits_from limit (value * 10 + (b - 48)) bs
    else None

unfoldable pub number_of : ℕ → List ℕ → Option ℕ
number_of limit word = digits_from limit 0 word

-- the number from -bound to bound - 1 that the word stands for
unfoldable pub value_of : ℕ → List ℕ → Option ℤ
value_of bound word =
    if slice_index word 0 == 45
    then (number_of (bound + 1) (drop 1 word) >>= λ n. Some (neg_ℤ (pos n)))
    else (number_of bound word >>= λ n. Some (pos n))

unfoldable pub name_of : List ℕ → Option Name
name_of word = do
  numbers ← two (parts 58 word)
  home ← number_of (2 ^ 16) numbers.0
  serial ← number_of (2 ^ 32) numbers.1
  Some (record { home = home; serial = serial })

unfoldable pub bytes_of : List ℕ → Option (List ℕ)
bytes_of word = result_ok (decode_of word)
