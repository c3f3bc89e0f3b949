-- Which line the words may be. This is a guess: what is guessed is written again, and held against the line.
use Rattle.std.specs.Prelude.{ℕ, ◌^◌, if◌then◌else◌, List, [], ◌∷◌, codes, Option, Some, None, ℤ}
use Rattle.std.specs.Str.{bytes_eq}
use Rattle.crl_model.specs.declared.name.Name.{Name}
use Rattle.crl_model.specs.declared.call.Refusal.{Refusal}
use Rattle.crl_model.specs.declared.collective.Part.{Part}
use Rattle.crl_model.specs.declared.collective.Part.TheVariants as parts
use Rattle.crl_model.specs.declared.collective.Fold.{Fold}
use Rattle.crl_model.specs.declared.collective.Fold.TheVariants as folds
use Rattle.crl_model.specs.declared.entry.What.{What}
use Rattle.crl_model.specs.declared.entry.What.TheVariants as whats
use Rattle.crl_model.specs.declared.entry.Place.{Place}
use Rattle.crl_model.specs.declared.entry.Place.TheVariants as places
use Rattle.crl_account.specs.declared.line.Line.{Line}
use Rattle.crl_account.specs.declared.line.Line.TheVariants as lines
use Rattle.crl_account.specs.Text.{is_of_round}
use Rattle.crl_account.specs.Parts as texts
use Rattle.crl_account_reader.specs.declared.words.Verb.{Verb}
use Rattle.crl_account_reader.specs.declared.words.Verb.TheVariants as verbs
use Rattle.crl_account_reader.specs.Words.{verb_of, kind_of, refusal_of}
use Rattle.crl_account_reader.specs.Reading.{◌>>=◌, nothing, only, two, three, number_of, value_of, name_of, bytes_of}

-- one word or two or three that stand for these
unfoldable pub only_name : List (List ℕ) → Option Name
only_name words = only words >>= λ word. name_of word

unfoldable pub only_bytes : List (List ℕ) → Option (List ℕ)
only_bytes words = only words >>= λ word. bytes_of word

unfoldable pub only_value : ℕ → List (List ℕ) → Option ℤ
only_value bound words = only words >>= λ word. value_of bound word

unfoldable pub name_and_size : List (List ℕ) → Option (Name × ℕ)
name_and_size words = do
  both ← two words
  name ← name_of both.0
  size ← number_of (2 ^ 32) both.1
  Some (name, size)

unfoldable pub name_and_bytes : List (List ℕ) → Option (Name × List ℕ)
name_and_bytes words = do
  both ← two words
  name ← name_of both.0
  bytes ← bytes_of both.1
  Some (name, bytes)

unfoldable pub name_and_two : List (List ℕ) → Option (Name × List ℕ × List ℕ)
name_and_two words = do
  all ← three words
  name ← name_of all.0
  before ← bytes_of all.1
  after ← bytes_of all.2
  Some (name, before, after)

-- what a node brings to a round, by the word for it and those behind
unfoldable pub part_by : Verb → List (List ℕ) → Option Part
part_by verbs.Barrier words = nothing words >>= λ _. Some parts.Barrier
part_by verbs.Send words = only_bytes words >>= λ bytes. Some (parts.Send bytes)
part_by verbs.Receive words = nothing words >>= λ _. Some parts.Receive
part_by verbs.Sum words = only_value (2 ^ 63) words >>= λ value. Some (parts.Sum value)
part_by verbs.Min words = only_value (2 ^ 63) words >>= λ value. Some (parts.Min value)
part_by verbs.Max words = only_value (2 ^ 63) words >>= λ value. Some (parts.Max value)
part_by _ words = None

unfoldable pub part_of : List (List ℕ) → Option Part
part_of [] = None
part_of (word ∷ words) = verb_of word >>= λ verb. part_by verb words

-- what a round gives, by the word for it and those behind the round's number
unfoldable pub fold_by : Verb → List (List ℕ) → Option Fold
fold_by verbs.Barrier words = nothing words >>= λ _. Some folds.Barrier
fold_by verbs.Broadcast words = only_bytes words >>= λ bytes. Some (folds.Broadcast bytes)
fold_by verbs.Sum words = only_value (2 ^ 127) words >>= λ value. Some (folds.Sum value)
fold_by verbs.Min words = only_value (2 ^ 63) words >>= λ value. Some (folds.Min value)
fold_by verbs.Max words = only_value (2 ^ 63) words >>= λ value. Some (folds.Max value)
fold_by _ words = None

unfoldable pub came_by : Verb → List (List ℕ) → Option What
came_by verb [] = None
came_by verb (word ∷ words) = do
  round ← number_of (2 ^ 64) word
  fold ← fold_by verb words
  Some (whats.Came round fold)

unfoldable pub place_of : Refusal → List ℕ → Option Place
place_of why word =
    if is_of_round why
    then (number_of (2 ^ 64) word >>= λ round. Some (places.Round round))
    else (name_of word >>= λ name. Some (places.Region name))

unfoldable pub refused_of : List (List ℕ) → Option What
refused_of words = do
  all ← three words
  kind ← kind_of all.0
  why ← refusal_of all.2
  place ← place_of why all.1
  Some (whats.Refused kind place why)

-- what an entry says that is only about a region
abbrev pub about_name : Verb → Name → Option What
about_name verbs.Unmap name = Some (whats.Unmap name)
about_name verbs.StartRead name = Some (whats.StartRead name)
about_name verbs.StartWrite name = Some (whats.StartWrite name)
about_name verbs.Flush name = Some (whats.Flush name)
about_name verbs.Deleting name = Some (whats.Deleting name)
about_name verbs.Deleted name = Some (whats.Deleted name)
about_name _ name = None

abbrev pub about : Verb → List (List ℕ) → Option What
about verb words = only_name words >>= λ name. about_name verb name

-- what an entry says, by its verb and the words behind
unfoldable pub what_by : Verb → List (List ℕ) → Option What
what_by verbs.Create words = name_and_size words >>= λ both. Some (whats.Create both.0 both.1)
what_by verbs.Map words = name_and_size words >>= λ both. Some (whats.Map both.0 both.1)
what_by verbs.Read words = name_and_bytes words >>= λ both. Some (whats.Read both.0 both.1)
what_by verbs.Write words = name_and_two words >>= λ all. Some (whats.Write all.0 all.1 all.2)
what_by verbs.Come words = part_of words >>= λ part. Some (whats.Come part)
what_by verbs.Refused words = refused_of words
what_by verbs.Unmap words = about verbs.Unmap words
what_by verbs.StartRead words = about verbs.StartRead words
what_by verbs.StartWrite words = about verbs.StartWrite words
what_by verbs.Flush words = about verbs.Flush words
what_by verbs.Deleting words = about verbs.Deleting words
what_by verbs.Deleted words = about verbs.Deleted words
what_by verb words = came_by verb words

unfoldable pub entry_by : List ℕ → List (List ℕ) → Option Line
entry_by first [] = None
entry_by first (word ∷ words) = do
  node ← number_of (2 ^ 16) first
  verb ← verb_of word
  what ← what_by verb words
  Some (lines.Entry (record { node = node; what = what }))

unfoldable pub region_by : List (List ℕ) → Option Line
region_by words = name_and_bytes words >>= λ both. Some (lines.Region both.0 both.1)

unfoldable pub stuck_round_by : ℕ → List (List ℕ) → Option Line
stuck_round_by node words = do
  all ← three words
  round ← number_of (2 ^ 64) all.0
  absent ← number_of (2 ^ 16) all.2
  Some (lines.StuckRound node round absent)

unfoldable pub stuck_section_by : ℕ → List ℕ → List (List ℕ) → Option Line
stuck_section_by node word words = do
  both ← two words
  name ← name_of word
  holder ← number_of (2 ^ 16) both.1
  Some (lines.StuckSection node name holder)

unfoldable pub stuck_at : ℕ → List (List ℕ) → Option Line
stuck_at node [] = None
stuck_at node (word ∷ words) = if bytes_eq word (codes "round") then stuck_round_by node words else stuck_section_by node word words

unfoldable pub stuck_by : List (List ℕ) → Option Line
stuck_by [] = None
stuck_by (word ∷ words) = number_of (2 ^ 16) word >>= λ node. stuck_at node words

unfoldable pub counts_by : List (List ℕ) → Option Line
counts_by words = do
  all ← three words
  events ← number_of (2 ^ 64) all.0
  messages ← number_of (2 ^ 64) all.2
  Some (lines.Counts events messages)

-- the line, by its first word and those behind
unfoldable pub line_by : List (List ℕ) → Option Line
line_by [] = None
line_by (word ∷ words) =
    if bytes_eq word (codes "region") then region_by words
    else if bytes_eq word (codes "stuck") then stuck_by words
    else if bytes_eq word (codes "events") then counts_by words
    else entry_by word words

unfoldable pub line_of : List ℕ → Option Line
line_of text = line_by (texts.parts 32 text)
