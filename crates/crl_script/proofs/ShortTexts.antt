-- A text of short lines.
use Rattle.std.proofs.Common.{◌≡◌, ℕ, ◌+◌, ◌*◌, ◌≤◌, Bool, true, false, cond, List, [], ◌∷◌, ◌++◌, length, sym, ap, ◌∙◌, subst, arith, append_assoc, length-append}
use Rattle.std.specs.List.{AllByRecursion, slice_split, onto_first}
use Rattle.crl_script.specs.Canonical.{line_text}
use Rattle.crl_script.specs.Text.{Line, lines_of, lines_in, is_feed}
use Rattle.crl_script.proofs.SpellLemmas.{joined, line_is_joined}
use Rattle.crl_script.proofs.WordLengths.{AllWithin, FirstWithin}

-- up to a line feed stands a part
feed_within : (n : ℕ) (t rest : List ℕ) → length t ≤ n → AllWithin n (slice_split is_feed rest)
    → FirstWithin (length t) (slice_split is_feed (t ++ 10 ∷ rest)) × AllWithin n (slice_split is_feed (t ++ 10 ∷ rest))
feed_within n [] rest h all = (omega arith, (omega arith, all))
feed_within n (x ∷ xs) rest h all = let more = feed_within n xs rest (omega arith) all in go (is_feed x) (slice_split is_feed (xs ++ 10 ∷ rest)) more.0 more.1 where
  go : (b : Bool) (parts : List (List ℕ)) → FirstWithin (length xs) parts → AllWithin n parts
      → FirstWithin (length (x ∷ xs)) (cond b ([] ∷ parts) (onto_first x parts)) × AllWithin n (cond b ([] ∷ parts) (onto_first x parts))
  go true parts first all = (omega arith, (omega arith, all))
  go false [] first all = (omega arith, (omega arith, tt))
  go false (word ∷ words) first all = (omega arith, (omega arith, all.1))

-- so many lines at most, of at most 60 bytes with their line feeds
pub record IsShortText (lines : ℕ) (text : List ℕ) : Type 0 where
  pub parts : AllWithin 59 (slice_split is_feed text)
  pub size : length text ≤ 60 * lines

pub no_text : IsShortText 0 []
no_text = record { parts = (omega arith, tt); size = omega arith }

pub line_before : (words : List (List ℕ)) (rest : List ℕ) (lines : ℕ) → length (line_text words) ≤ 60 → IsShortText lines rest → IsShortText (lines + 1) (line_text words ++ rest)
line_before words rest lines short h =
    let l = ap length (line_is_joined words) ∙ length-append (joined words) (10 ∷ []) in
    let whole : line_text words ++ rest ≡ joined words ++ 10 ∷ rest = ap (λ (t : List ℕ). t ++ rest) (line_is_joined words) ∙ append_assoc (joined words) (10 ∷ []) rest in
    let size = length-append (line_text words) rest in
    let more = h.size in
    record {
      parts = subst (λ (t : List ℕ). AllWithin 59 (slice_split is_feed t)) (sym whole) (feed_within 59 (joined words) rest (omega arith) h.parts).1;
      size = omega arith;
    }

lines_within : (parts : List (List ℕ)) → AllWithin 59 parts → AllByRecursion (λ (line : Line). line.size ≤ 140000) (lines_in parts)
lines_within [] h = tt
lines_within ([] ∷ []) h = tt
lines_within ((b ∷ bs) ∷ []) h = let first = h.0 in (omega arith, tt)
lines_within ([] ∷ next ∷ parts) h = (omega arith, lines_within (next ∷ parts) h.1)
lines_within ((b ∷ bs) ∷ next ∷ parts) h = let first = h.0 in (omega arith, lines_within (next ∷ parts) h.1)

pub lines_are_short : (lines : ℕ) (text : List ℕ) → IsShortText lines text → AllByRecursion (λ (line : Line). line.size ≤ 140000) (lines_of text)
unfolding lines_of
lines_are_short lines text h = lines_within (slice_split is_feed text) h.parts
