-- What single words stand for.
use Rattle.std.specs.Prelude.{ℕ, ◌+◌, ◌-◌, ◌*◌, ◌==◌, ◌&&◌, ◌||◌, Bool, false, nat_le, nat_lt, if◌then◌else◌, List, [], ◌∷◌, length, Option, Some, None, Result, Ok, Err, ℤ, pos, neg_ℤ}
use Rattle.std.specs.List.{list_all}
use Rattle.hex.specs.Hex.{decode_of}
use Rattle.hex.specs.declared.error.FromHexError.{FromHexError}
use Rattle.crl_script.specs.declared.fault.ScriptWhy.{ScriptWhy}
use Rattle.crl_script.specs.declared.fault.ScriptWhy.TheVariants.{BadNumber, BadHex}

-- an ASCII letter
abbrev pub is_letter : ℕ → Bool
is_letter b = (nat_le 65 b && nat_le b 90) || (nat_le 97 b && nat_le b 122)

-- a decimal digit
abbrev pub is_digit : ℕ → Bool
is_digit b = nat_le 48 b && nat_le b 57

-- what a label has behind its first letter
abbrev pub is_label_byte : ℕ → Bool
is_label_byte b = is_letter b || is_digit b || (b == 95)

-- 1 to 32 bytes: a letter, then letters, digits or underscores
unfoldable pub is_label : List ℕ → Bool
is_label [] = false
is_label (b ∷ bs) = is_letter b && nat_le (length bs) 31 && list_all is_label_byte bs

-- the number of more decimal digits, behind digits with this value
abbrev pub digits_from : ℕ → List ℕ → Option ℕ
digits_from n [] = Some n
digits_from n (b ∷ bs) = if is_digit b then digits_from (n * 10 + (b - 48)) bs else None

-- the number of 1 to 20 decimal digits
unfoldable pub natural_of : List ℕ → Option ℕ
natural_of word = if (length word == 0) || nat_lt 20 (length word) then None else digits_from 0 word

-- a value of at most this size, or a fault
abbrev pub at_most : ℕ → ScriptWhy → Option ℕ → Result ℕ ScriptWhy
at_most limit why None = Err why
at_most limit why (Some n) = if nat_le n limit then Ok n else Err why

-- the number that a word is, of at most this size, or a fault
unfoldable pub number_of : ℕ → ScriptWhy → List ℕ → Result ℕ ScriptWhy
number_of limit why word = at_most limit why (natural_of word)

-- a number, with its sign
abbrev pub positive : Result ℕ ScriptWhy → Result ℤ ScriptWhy
positive (Ok n) = Ok (pos n)
positive (Err why) = Err why

abbrev pub negative : Result ℕ ScriptWhy → Result ℤ ScriptWhy
negative (Ok n) = Ok (neg_ℤ (pos n))
negative (Err why) = Err why

-- the number from -2^63 to 2^63 - 1 that a word is; a minus may stand before it
unfoldable pub value_of : List ℕ → Result ℤ ScriptWhy
value_of [] = Err BadNumber
value_of (b ∷ bs) = if b == 45 then negative (number_of 9223372036854775808 BadNumber bs) else positive (number_of 9223372036854775807 BadNumber (b ∷ bs))

-- what was decoded
abbrev pub decoded : Result (List ℕ) FromHexError → Result (List ℕ) ScriptWhy
decoded (Ok bytes) = Ok bytes
decoded (Err why) = Err BadHex

-- the bytes, at least one, that a word is in hexadecimal
unfoldable pub bytes_of : List ℕ → Result (List ℕ) ScriptWhy
bytes_of word = if length word == 0 then Err BadHex else decoded (decode_of word)
