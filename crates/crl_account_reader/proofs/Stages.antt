-- Reading line by line: what may stand behind the lines so far, and what the entries are then.
use Rattle.std.proofs.Common.{◌≡◌, ℕ, ◌+◌, true, false, List, [], ◌∷◌, ◌++◌, length, inl, inr, refl, sym, ap, subst, ◌∙◌, append_assoc}
use Rattle.std.proofs.lemmas.List.{append-nil}
use Rattle.crl_model.specs.declared.entry.Entry.{Entry}
use Rattle.crl_account.specs.declared.line.Line.{Line}
use Rattle.crl_account.specs.declared.line.Line.TheVariants as lines
use Rattle.crl_account.specs.declared.line.Stage.{Stage}
use Rattle.crl_account.specs.declared.line.Stage.TheVariants as stages
use Rattle.crl_account.specs.Account.{IsLine, IsLineOf, stage_of, AreCounts, AreStuck, AreRegions, IsAccount, IsFirstBad}
use Rattle.crl_account_reader.specs.Step.{follows, entries_in, IsRefused}
use Rattle.crl_account_reader.specs.Reader.{IsBehind, IsRead}
use Rattle.crl_account_reader.proofs.Lines.{line_unique}

-- ---- one line

pub behind_none : (stage : Stage) → IsBehind stage [] []
behind_none stages.Entries = tt
behind_none stages.Regions = tt
behind_none stages.Stuck = tt
behind_none stages.Counts = tt

pub nothing_behind : (stage : Stage) (entries : List Entry) → IsBehind stage [] entries → entries ≡ []
nothing_behind stage [] behind = refl
nothing_behind stages.Entries (entry ∷ entries) behind = absurd behind
nothing_behind stages.Regions (entry ∷ entries) behind = absurd behind
nothing_behind stages.Stuck (entry ∷ entries) behind = absurd behind
nothing_behind stages.Counts (entry ∷ entries) behind = absurd behind

-- a line of counts is the last
counts_to : (bytes : List ℕ) (rest : List (List ℕ)) (entries : List Entry) → IsLineOf stages.Counts bytes → IsBehind stages.Counts rest entries → AreCounts (bytes ∷ rest) × (entries ≡ [])
counts_to bytes [] [] is behind = (is, refl)
counts_to bytes [] (entry ∷ entries) is behind = absurd behind
counts_to bytes (other ∷ rest) entries is behind = absurd behind

-- a line of each stage in front
stuck_to : (bytes : List ℕ) (rest : List (List ℕ)) (entries : List Entry) (stage : Stage) → IsLineOf stages.Stuck bytes → follows stages.Stuck stage ≡ true → IsBehind stages.Stuck rest entries → IsBehind stage (bytes ∷ rest) entries
stuck_to bytes rest [] stages.Entries is f behind = inr (inl (is, behind))
stuck_to bytes rest [] stages.Regions is f behind = inr (inl (is, behind))
stuck_to bytes rest [] stages.Stuck is f behind = inl (is, behind)
stuck_to bytes rest [] stages.Counts is f behind = absurd cc
stuck_to bytes rest (entry ∷ entries) stage is f behind = absurd behind

regions_to : (bytes : List ℕ) (rest : List (List ℕ)) (entries : List Entry) (stage : Stage) → IsLineOf stages.Regions bytes → follows stages.Regions stage ≡ true → IsBehind stages.Regions rest entries → IsBehind stage (bytes ∷ rest) entries
regions_to bytes rest [] stages.Entries is f behind = inl (is, behind)
regions_to bytes rest [] stages.Regions is f behind = inl (is, behind)
regions_to bytes rest [] stages.Stuck is f behind = absurd cc
regions_to bytes rest [] stages.Counts is f behind = absurd cc
regions_to bytes rest (entry ∷ entries) stage is f behind = absurd behind

counted_to : (bytes : List ℕ) (rest : List (List ℕ)) (stage : Stage) → follows stages.Counts stage ≡ true → AreCounts (bytes ∷ rest) → IsBehind stage (bytes ∷ rest) []
counted_to bytes rest stages.Entries f are = inr (inr are)
counted_to bytes rest stages.Regions f are = inr (inr are)
counted_to bytes rest stages.Stuck f are = inr are
counted_to bytes rest stages.Counts f are = absurd cc

entry_to : (bytes : List ℕ) (rest : List (List ℕ)) (entry : Entry) (entries : List Entry) (stage : Stage) → IsLine (lines.Entry entry) bytes → follows stages.Entries stage ≡ true → IsAccount rest entries → IsBehind stage (bytes ∷ rest) (entry ∷ entries)
entry_to bytes rest entry entries stages.Entries is f behind = (is, behind)
entry_to bytes rest entry entries stages.Regions is f behind = absurd cc
entry_to bytes rest entry entries stages.Stuck is f behind = absurd cc
entry_to bytes rest entry entries stages.Counts is f behind = absurd cc

pub line_to : (line : Line) (bytes : List ℕ) (rest : List (List ℕ)) (entries : List Entry) (stage : Stage) → IsLine line bytes → follows (stage_of line) stage ≡ true → IsBehind (stage_of line) rest entries → IsBehind stage (bytes ∷ rest) (entries_in line ++ entries)
line_to (lines.Entry entry) bytes rest entries stage is f behind = entry_to bytes rest entry entries stage is f behind
line_to (lines.Region name seen) bytes rest entries stage is f behind = regions_to bytes rest entries stage (lines.Region name seen, refl, is) f behind
line_to (lines.StuckSection node name holder) bytes rest entries stage is f behind = stuck_to bytes rest entries stage (lines.StuckSection node name holder, refl, is) f behind
line_to (lines.StuckRound node round absent) bytes rest entries stage is f behind = stuck_to bytes rest entries stage (lines.StuckRound node round absent, refl, is) f behind
line_to (lines.Counts events messages) bytes rest entries stage is f behind =
    let both = counts_to bytes rest entries (lines.Counts events messages, refl, is) behind in
    subst (λ (es : List Entry). IsBehind stage (bytes ∷ rest) es) (sym both.1) (counted_to bytes rest stage f both.0)

-- a line that may stand here, with what may stand behind it
pub record Begins (bytes : List ℕ) (rest : List (List ℕ)) (entries : List Entry) (stage : Stage) : Type 0 where
  pub line : Line
  pub is : IsLine line bytes
  pub allowed : follows (stage_of line) stage ≡ true
  pub others : List Entry
  pub parts : entries ≡ entries_in line ++ others
  pub behind : IsBehind (stage_of line) rest others

-- a line of a stage other than that of entries
kept : (line : Line) (next : Stage) (bytes : List ℕ) (rest : List (List ℕ)) (stage : Stage) → stage_of line ≡ next → follows stages.Entries next ≡ false → IsLine line bytes → follows next stage ≡ true → IsBehind next rest [] → Begins bytes rest [] stage
kept (lines.Entry entry) next bytes rest stage e other is f behind = let same : true ≡ false = subst (λ (n : Stage). follows stages.Entries n ≡ false) (sym e) other in absurd cc
kept (lines.Region name seen) next bytes rest stage e other is f behind = record { line = lines.Region name seen; is = is; allowed = subst (λ (n : Stage). follows n stage ≡ true) (sym e) f; others = []; parts = refl; behind = subst (λ (n : Stage). IsBehind n rest []) (sym e) behind }
kept (lines.StuckSection node name holder) next bytes rest stage e other is f behind = record { line = lines.StuckSection node name holder; is = is; allowed = subst (λ (n : Stage). follows n stage ≡ true) (sym e) f; others = []; parts = refl; behind = subst (λ (n : Stage). IsBehind n rest []) (sym e) behind }
kept (lines.StuckRound node round absent) next bytes rest stage e other is f behind = record { line = lines.StuckRound node round absent; is = is; allowed = subst (λ (n : Stage). follows n stage ≡ true) (sym e) f; others = []; parts = refl; behind = subst (λ (n : Stage). IsBehind n rest []) (sym e) behind }
kept (lines.Counts events messages) next bytes rest stage e other is f behind = record { line = lines.Counts events messages; is = is; allowed = subst (λ (n : Stage). follows n stage ≡ true) (sym e) f; others = []; parts = refl; behind = subst (λ (n : Stage). IsBehind n rest []) (sym e) behind }

from_counts : (bytes : List ℕ) (rest : List (List ℕ)) (stage : Stage) → follows stages.Counts stage ≡ true → AreCounts (bytes ∷ rest) → Begins bytes rest [] stage
from_counts bytes [] stage f are = kept are.0 stages.Counts bytes [] stage are.1 refl are.2 f tt
from_counts bytes (other ∷ rest) stage f are = absurd are

from_stuck : (bytes : List ℕ) (rest : List (List ℕ)) (stage : Stage) → follows stages.Counts stage ≡ true → follows stages.Stuck stage ≡ true → AreStuck (bytes ∷ rest) → Begins bytes rest [] stage
from_stuck bytes rest stage f g (inl both) = kept both.0.0 stages.Stuck bytes rest stage both.0.1 refl both.0.2 g both.1
from_stuck bytes rest stage f g (inr are) = from_counts bytes rest stage f are

from_regions : (bytes : List ℕ) (rest : List (List ℕ)) (stage : Stage) → follows stages.Counts stage ≡ true → follows stages.Stuck stage ≡ true → follows stages.Regions stage ≡ true → AreRegions (bytes ∷ rest) → Begins bytes rest [] stage
from_regions bytes rest stage f g h (inl both) = kept both.0.0 stages.Regions bytes rest stage both.0.1 refl both.0.2 h both.1
from_regions bytes rest stage f g h (inr are) = from_stuck bytes rest stage f g are

pub line_from : (stage : Stage) (bytes : List ℕ) (rest : List (List ℕ)) (entries : List Entry) → IsBehind stage (bytes ∷ rest) entries → Begins bytes rest entries stage
line_from stages.Entries bytes rest [] behind = from_regions bytes rest stages.Entries refl refl refl behind
line_from stages.Entries bytes rest (entry ∷ entries) behind = record { line = lines.Entry entry; is = behind.0; allowed = refl; others = entries; parts = refl; behind = behind.1 }
line_from stages.Regions bytes rest [] behind = from_regions bytes rest stages.Regions refl refl refl behind
line_from stages.Regions bytes rest (entry ∷ entries) behind = absurd behind
line_from stages.Stuck bytes rest [] behind = from_stuck bytes rest stages.Stuck refl refl behind
line_from stages.Stuck bytes rest (entry ∷ entries) behind = absurd behind
line_from stages.Counts bytes rest entries behind = absurd behind

-- ---- the lines so far

pub read_none : IsRead [] [] stages.Entries
read_none = record { to = λ rest entries behind. behind; from = λ rest all is. (all, refl, is) }

pub read_more : (done : List (List ℕ)) (front : List Entry) (stage : Stage) (line : Line) (bytes : List ℕ) → IsRead done front stage → IsLine line bytes → follows (stage_of line) stage ≡ true
    → IsRead (done ++ bytes ∷ []) (front ++ entries_in line) (stage_of line)
read_more done front stage line bytes read is f = record {
  to = λ rest entries behind.
      subst (λ (ls : List (List ℕ)). IsAccount ls ((front ++ entries_in line) ++ entries)) (sym (append_assoc done (bytes ∷ []) rest))
      (subst (λ (es : List Entry). IsAccount (done ++ bytes ∷ rest) es) (sym (append_assoc front (entries_in line) entries))
      (read.to (bytes ∷ rest) (entries_in line ++ entries) (line_to line bytes rest entries stage is f behind)));
  from = λ rest all whole.
      let parted = read.from (bytes ∷ rest) all (subst (λ (ls : List (List ℕ)). IsAccount ls all) (append_assoc done (bytes ∷ []) rest) whole) in
      let begins = line_from stage bytes rest parted.0 parted.2 in
      let same : begins.line ≡ line = line_unique begins.line line bytes begins.is is in (
        begins.others,
        parted.1 ∙ ap (λ (es : List Entry). front ++ es) (begins.parts ∙ ap (λ (l : Line). entries_in l ++ begins.others) same) ∙ sym (append_assoc front (entries_in line) begins.others),
        subst (λ (l : Line). IsBehind (stage_of l) rest begins.others) same begins.behind,
      );
}

-- all lines are read
pub read_all : (done : List (List ℕ)) (front : List Entry) (stage : Stage) → IsRead done front stage → IsAccount done front
read_all done front stage read =
    subst (λ (es : List Entry). IsAccount done es) (append-nil front)
    (subst (λ (ls : List (List ℕ)). IsAccount ls (front ++ [])) (append-nil done) (read.to [] [] (behind_none stage)))

pub only_these : (done : List (List ℕ)) (front all : List Entry) (stage : Stage) → IsRead done front stage → IsAccount done all → all ≡ front
only_these done front all stage read is =
    let parted = read.from [] all (subst (λ (ls : List (List ℕ)). IsAccount ls all) (sym (append-nil done)) is) in
    parted.1 ∙ ap (λ (es : List Entry). front ++ es) (nothing_behind stage parted.0 parted.2) ∙ append-nil front

pub refused_here : (done : List (List ℕ)) (front all : List Entry) (stage : Stage) (bytes : List ℕ) (rest : List (List ℕ)) → IsRead done front stage → IsRefused bytes stage → IsAccount (done ++ bytes ∷ rest) all → ⊥
refused_here done front all stage bytes rest read refused is =
    let parted = read.from (bytes ∷ rest) all is in
    let begins = line_from stage bytes rest parted.0 parted.2 in
    refused begins.line begins.is begins.allowed

pub first_bad : (done : List (List ℕ)) (front : List Entry) (stage : Stage) (bytes : List ℕ) (rest all : List (List ℕ)) (number : ℕ) → IsRead done front stage → IsRefused bytes stage
    → all ≡ done ++ bytes ∷ rest → number ≡ length done + 1 → IsFirstBad all number
first_bad done front stage bytes rest all number read refused parts place = record {
  front = done;
  line = bytes;
  rest = rest;
  parts = parts;
  place = place;
  good = (front, read_all done front stage read);
  bad = λ entries is. refused_here done front entries stage bytes [] read refused is;
}
