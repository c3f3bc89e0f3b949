-- No word of a line is longer than the line.
use Rattle.std.proofs.Common.{ℕ, ◌-◌, ◌≤◌, Bool, true, false, cond, List, [], ◌∷◌, length, take, arith}
use Rattle.std.specs.Prelude.{◌==◌, filter, slice_index}
use Rattle.std.specs.List.{AllByRecursion, slice_split, onto_first}
use Rattle.std.proofs.lemmas.List.{length-take}
use Rattle.crl_script.specs.Text.{Line, lines_of, lines_in, is_blank, is_word, words_of, without_return}

abbrev pub AllWithin : ℕ → List (List ℕ) → Type 0
AllWithin n words = AllByRecursion (λ word. length word ≤ n) words

abbrev pub FirstWithin : ℕ → List (List ℕ) → Type 0
FirstWithin n [] = Unit {0}
FirstWithin n (word ∷ words) = length word ≤ n

parts_within : (p : ℕ → Bool) (n : ℕ) (xs : List ℕ) → length xs ≤ n → FirstWithin (length xs) (slice_split p xs) × AllWithin n (slice_split p xs)
parts_within p n [] h = (omega arith, (omega arith, tt))
parts_within p n (x ∷ xs) h = let more = parts_within p n xs (omega arith) in go (p x) (slice_split p xs) more.0 more.1 where
  go : (b : Bool) (parts : List (List ℕ)) → FirstWithin (length xs) parts → AllWithin n parts
      → FirstWithin (length (x ∷ xs)) (cond b ([] ∷ parts) (onto_first x parts)) × AllWithin n (cond b ([] ∷ parts) (onto_first x parts))
  go true parts first all = (omega arith, (omega arith, all))
  go false [] first all = (omega arith, (omega arith, tt))
  go false (word ∷ words) first all = (omega arith, (omega arith, all.1))

filter_within : (n : ℕ) (p : List ℕ → Bool) (words : List (List ℕ)) → AllWithin n words → AllWithin n (filter p words)
filter_within n p [] h = tt
filter_within n p (word ∷ words) h = go (p word) (filter_within n p words h.1) where
  go : (b : Bool) → AllWithin n (filter p words) → AllWithin n (cond b (word ∷ filter p words) (filter p words))
  go true more = (h.0, more)
  go false more = more

pub words_within : (n : ℕ) (bytes : List ℕ) → length bytes ≤ n → AllWithin n (words_of bytes)
unfolding words_of
words_within n bytes h = filter_within n is_word (slice_split is_blank bytes) (parts_within is_blank n bytes h).1

-- a line has at most as many bytes as it says
abbrev pub AllSized : List Line → Type 0
AllSized lines = AllByRecursion (λ line. length line.bytes ≤ line.size) lines

ended_sized : (bytes : List ℕ) → length (without_return bytes) ≤ length bytes
unfolding without_return
ended_sized bytes = go (slice_index bytes (length bytes - 1) == 13) where
  go : (b : Bool) → length (cond b (take (length bytes - 1) bytes) bytes) ≤ length bytes
  go true = omega (arith, length-take (length bytes - 1) bytes)
  go false = omega arith

parts_sized : (parts : List (List ℕ)) → AllSized (lines_in parts)
parts_sized [] = tt
parts_sized ([] ∷ []) = tt
parts_sized ((b ∷ bs) ∷ []) = (omega arith, tt)
parts_sized ([] ∷ next ∷ parts) = (ended_sized [], parts_sized (next ∷ parts))
parts_sized ((b ∷ bs) ∷ next ∷ parts) = (ended_sized (b ∷ bs), parts_sized (next ∷ parts))

pub lines_sized : (text : List ℕ) → AllSized (lines_of text)
unfolding lines_of
lines_sized text = parts_sized _
