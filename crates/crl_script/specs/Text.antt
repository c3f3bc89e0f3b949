-- A text as lines, and a line as words.
use Rattle.std.specs.Prelude.{ℕ, ◌-◌, ◌==◌, ◌||◌, Bool, true, false, if◌then◌else◌, List, [], ◌∷◌, length, filter, take, slice_index}
use Rattle.std.specs.List.{slice_split}

-- a line feed ends a line
abbrev pub is_feed : ℕ → Bool
is_feed b = b == 10

-- spaces and tabs part words
abbrev pub is_blank : ℕ → Bool
is_blank b = (b == 32) || (b == 9)

-- a line: how many bytes it has without its line feed, and its bytes without a carriage return before
-- that line feed
pub record Line : Type 0 where
  pub size : ℕ
  pub bytes : List ℕ

-- without a carriage return at the end
unfoldable pub without_return : List ℕ → List ℕ
without_return bytes = if slice_index bytes (length bytes - 1) == 13 then take (length bytes - 1) bytes else bytes

-- a line that a line feed ends
abbrev pub ended : List ℕ → Line
ended bytes = record { size = length bytes; bytes = without_return bytes }

-- the lines in the parts between line feeds: behind the last line feed stands a line only where that part isn't empty
abbrev pub lines_in : List (List ℕ) → List Line
lines_in [] = []
lines_in ([] ∷ []) = []
lines_in ((b ∷ bs) ∷ []) = record { size = length (b ∷ bs); bytes = b ∷ bs } ∷ []
lines_in (part ∷ next ∷ parts) = ended part ∷ lines_in (next ∷ parts)

-- the lines of a text
unfoldable pub lines_of : List ℕ → List Line
lines_of text = lines_in (slice_split is_feed text)

-- a word has a byte
abbrev pub is_word : List ℕ → Bool
is_word [] = false
is_word (b ∷ bs) = true

-- the words of a line
unfoldable pub words_of : List ℕ → List (List ℕ)
words_of bytes = filter is_word (slice_split is_blank bytes)

-- a line whose first word begins with # is a comment
abbrev pub is_comment : List ℕ → Bool
is_comment word = slice_index word 0 == 35
