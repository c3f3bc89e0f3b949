-- Where a list is cut.
use Rattle.std.proofs.Common.{◌≡◌, ℕ, ◌+◌, ◌-◌, ◌<◌, ◌≤◌, Bool, true, false, cond, not, List, [], ◌∷◌, length, take, drop, Some, None, position, refl, sym, ap, ◌∙◌, arith}
use Rattle.std.specs.List.{slice_split, onto_first, position_or_len}
use Rattle.std.specs.Prelude.{filter, slice_index}
use Rattle.std.proofs.lemmas.List.Splits.{slice_split_first}
use Rattle.std.proofs.lemmas.List.{length-take-le}
use Rattle.std.proofs.lemmas.List.Quantifiers.{position-Some}
use Rattle.std.proofs.lemmas.Slice.{between_to_end}
use Rattle.crl_script.specs.Text.{lines_of, lines_in, ended, is_feed, is_blank, is_word, words_of, without_return}

no_mark_step : (p : ℕ → Bool) (x : ℕ) (xs : List ℕ) (n : ℕ) (b : Bool)
    → (length xs ≤ n → slice_split p xs ≡ xs ∷ []) → length (x ∷ xs) ≤ cond (not b) (1 + n) 0
    → cond b ([] ∷ slice_split p xs) (onto_first x (slice_split p xs)) ≡ (x ∷ xs) ∷ []
no_mark_step p x xs n true again h = absurd (omega arith)
no_mark_step p x xs n false again h = rw (again (omega arith)) refl

-- where no byte is a mark, the list is the one part
no_mark : (p : ℕ → Bool) (xs : List ℕ) → length xs ≤ position_or_len p xs → slice_split p xs ≡ xs ∷ []
no_mark p [] h = refl
no_mark p (x ∷ xs) h = no_mark_step p x xs (position_or_len p xs) (p x) (no_mark p xs) h

pub cut_none : (p : ℕ → Bool) (xs : List ℕ) → position p xs ≡ None → slice_split p xs ≡ xs ∷ []
cut_none p xs h = no_mark p xs (grind arith)

-- a part ends at the first mark
pub cut_some : (p : ℕ → Bool) (xs : List ℕ) (i : ℕ) → position p xs ≡ Some i
    → slice_split p xs ≡ take i xs ∷ slice_split p (take (length xs - (i + 1)) (drop (i + 1) xs))
cut_some p xs i h =
    let same : position_or_len p xs ≡ i = grind arith in
    let within : position_or_len p xs < length xs = grind arith in
    rw (between_to_end xs (i + 1) (length xs) (omega arith)) (rw (← same) (slice_split_first p xs 0 within))

-- there is a part
pub first_part : (p : ℕ → Bool) (xs : List ℕ) → (part : List ℕ) × (parts : List (List ℕ)) × (slice_split p xs ≡ part ∷ parts)
first_part p [] = ([], [], refl)
first_part p (x ∷ xs) = go (p x) (first_part p xs) where
  go : (b : Bool) → ((part : List ℕ) × (parts : List (List ℕ)) × (slice_split p xs ≡ part ∷ parts))
      → (part : List ℕ) × (parts : List (List ℕ)) × (cond b ([] ∷ slice_split p xs) (onto_first x (slice_split p xs)) ≡ part ∷ parts)
  go true rest = ([], slice_split p xs, refl)
  go false rest = (x ∷ rest.0, rest.1, ap (onto_first x) rest.2)

-- a text without line feeds is one line, if it isn't empty
pub line_last : (text : List ℕ) → 0 < length text → position is_feed text ≡ None
    → lines_of text ≡ record { size = length text; bytes = text } ∷ lines_of []
unfolding lines_of
line_last [] h e = absurd (omega arith)
line_last (b ∷ bs) h e = ap lines_in (cut_none is_feed (b ∷ bs) e)

pub ended_first : (part next : List ℕ) (parts : List (List ℕ)) → lines_in (part ∷ next ∷ parts) ≡ ended part ∷ lines_in (next ∷ parts)
ended_first [] next parts = refl
ended_first (b ∷ bs) next parts = refl

-- up to the first line feed stands a line
pub line_more : (text : List ℕ) (i : ℕ) → position is_feed text ≡ Some i
    → lines_of text ≡ record { size = i; bytes = without_return (take i text) } ∷ lines_of (take (length text - (i + 1)) (drop (i + 1) text))
unfolding lines_of
line_more text i e =
    let rest = take (length text - (i + 1)) (drop (i + 1) text) in
    let some = first_part is_feed rest in
    let within : i < length text = (position-Some is_feed text i 0 e).0 in
    let size : length (take i text) ≡ i = length-take-le i text (omega arith) in
    ap lines_in (cut_some is_feed text i e ∙ ap (λ (parts : List (List ℕ)). take i text ∷ parts) some.2)
    ∙ ended_first (take i text) some.0 some.1
    ∙ ap (λ (parts : List (List ℕ)). ended (take i text) ∷ lines_in parts) (sym some.2)
    ∙ ap (λ (n : ℕ). record { size = n; bytes = without_return (take i text) } ∷ lines_of rest) size

-- an empty text has no lines
pub line_none : (text : List ℕ) → length text ≡ 0 → lines_of text ≡ []
unfolding lines_of
line_none [] h = refl
line_none (b ∷ bs) h = absurd (omega arith)

-- no words
pub words_none : (bytes : List ℕ) → length bytes ≡ 0 → words_of bytes ≡ []
unfolding words_of
words_none [] h = refl
words_none (b ∷ bs) h = absurd (omega arith)

-- a blank at the front parts nothing
pub words_behind : (bytes : List ℕ) → 0 < length bytes → is_blank (slice_index bytes 0) ≡ true
    → words_of bytes ≡ words_of (take (length bytes - 1) (drop 1 bytes))
unfolding words_of
words_behind [] h e = absurd (omega arith)
words_behind (b ∷ bs) h e =
    rw (between_to_end (b ∷ bs) 1 (length (b ∷ bs)) (omega arith))
    (ap (λ (c : Bool). filter is_word (cond c ([] ∷ slice_split is_blank bs) (onto_first b (slice_split is_blank bs)))) e)

-- a part that doesn't begin with a blank is a word
pub word_first : (bytes front : List ℕ) (parts : List (List ℕ)) → 0 < length bytes → is_blank (slice_index bytes 0) ≡ false
    → slice_split is_blank bytes ≡ front ∷ parts → filter is_word (front ∷ parts) ≡ front ∷ filter is_word parts
word_first [] front parts h e s = absurd (omega arith)
word_first (b ∷ bs) front parts h e s = go front s where
  go : (front : List ℕ) → slice_split is_blank (b ∷ bs) ≡ front ∷ parts → filter is_word (front ∷ parts) ≡ front ∷ filter is_word parts
  go [] s =
      let some = first_part is_blank bs in
      let begins : slice_split is_blank (b ∷ bs) ≡ (b ∷ some.0) ∷ some.1 =
      ap (λ (c : Bool). cond c ([] ∷ slice_split is_blank bs) (onto_first b (slice_split is_blank bs))) e ∙ ap (onto_first b) some.2 in
      absurd (cc (s, begins))
  go (x ∷ xs) s = refl

-- all bytes are one word
pub word_last : (bytes : List ℕ) → 0 < length bytes → is_blank (slice_index bytes 0) ≡ false → position is_blank bytes ≡ None
    → words_of bytes ≡ bytes ∷ words_of []
unfolding words_of
word_last bytes h e none =
    let s = cut_none is_blank bytes none in
    ap (filter is_word) s ∙ word_first bytes bytes [] h e s

-- up to the first blank stands a word
pub word_more : (bytes : List ℕ) (i : ℕ) → 0 < length bytes → is_blank (slice_index bytes 0) ≡ false → position is_blank bytes ≡ Some i
    → words_of bytes ≡ take i bytes ∷ words_of (take (length bytes - (i + 1)) (drop (i + 1) bytes))
unfolding words_of
word_more bytes i h e some =
    let s = cut_some is_blank bytes i some in
    ap (filter is_word) s ∙ word_first bytes (take i bytes) _ h e s
