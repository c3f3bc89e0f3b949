-- What an account is: lines of entries, then of regions, then of stuck nodes, then at most one line of
-- counts. A line is read as the text that would be written for it.
use Rattle.std.specs.Prelude.{◌≡◌, ◌≢◌, ℕ, ◌+◌, ◌^◌, ◌<◌, ◌==◌, List, [], ◌∷◌, ◌++◌, length, codes, FitsSigned, ◌⊎◌}
use Rattle.std.specs.Int.{w64, w128}
use Rattle.std.specs.List.{slice_split}
use Rattle.hex.specs.Hex.{IsBytes}
use Rattle.crl_model.specs.declared.name.Name.{Name}
use Rattle.crl_model.specs.declared.collective.Part.{Part}
use Rattle.crl_model.specs.declared.collective.Part.TheVariants as parts
use Rattle.crl_model.specs.declared.collective.Fold.{Fold}
use Rattle.crl_model.specs.declared.collective.Fold.TheVariants as folds
use Rattle.crl_model.specs.declared.entry.Entry.{Entry}
use Rattle.crl_model.specs.declared.entry.What.{What}
use Rattle.crl_model.specs.declared.entry.What.TheVariants as whats
use Rattle.crl_model.specs.declared.entry.Place.{Place}
use Rattle.crl_model.specs.declared.entry.Place.TheVariants as places
use Rattle.crl_account.specs.declared.line.Line.{Line}
use Rattle.crl_account.specs.declared.line.Line.TheVariants as lines
use Rattle.crl_account.specs.declared.line.Stage.{Stage}
use Rattle.crl_account.specs.declared.line.Stage.TheVariants as stages
use Rattle.crl_account.specs.Text.{entry_text, region_text, stuck_section_text, stuck_round_text, counts_text, IsPrintable}

-- ---- lines

-- the parts but for a last one that is empty
abbrev pub without_empty_end : List (List ℕ) → List (List ℕ)
without_empty_end [] = []
without_empty_end ([] ∷ []) = []
without_empty_end (part ∷ rest) = part ∷ without_empty_end rest

-- the lines of a text, without their line feeds; the last line may lack its line feed
abbrev pub lines_of : List ℕ → List (List ℕ)
lines_of text = without_empty_end (slice_split (λ b. b == 10) text)

-- the text of a line
abbrev pub line_text : Line → List ℕ
line_text (lines.Entry entry) = entry_text entry
line_text (lines.Region name bytes) = region_text name bytes
line_text (lines.StuckSection node name holder) = stuck_section_text node name holder
line_text (lines.StuckRound node round absent) = stuck_round_text node round absent
line_text (lines.Counts events messages) = counts_text events messages

-- ---- numbers are within the types of their fields

abbrev pub FitsName : Name → Type 0
FitsName name = (name.home < 2 ^ 16) × (name.serial < 2 ^ 32)

abbrev pub FitsPlace : Place → Type 0
FitsPlace (places.Region name) = FitsName name
FitsPlace (places.Round round) = round < 2 ^ 64

abbrev pub FitsPart : Part → Type 0
FitsPart parts.Barrier = Unit {0}
FitsPart (parts.Send bytes) = IsBytes bytes
FitsPart parts.Receive = Unit {0}
FitsPart (parts.Sum value) = FitsSigned w64 value
FitsPart (parts.Min value) = FitsSigned w64 value
FitsPart (parts.Max value) = FitsSigned w64 value

abbrev pub FitsFold : Fold → Type 0
FitsFold folds.Barrier = Unit {0}
FitsFold (folds.Broadcast bytes) = IsBytes bytes
FitsFold (folds.Sum value) = FitsSigned w128 value
FitsFold (folds.Min value) = FitsSigned w64 value
FitsFold (folds.Max value) = FitsSigned w64 value
FitsFold folds.Mixed = Unit {0}

abbrev pub FitsWhat : What → Type 0
FitsWhat (whats.Create name size) = FitsName name × (size < 2 ^ 32)
FitsWhat (whats.Map name size) = FitsName name × (size < 2 ^ 32)
FitsWhat (whats.Unmap name) = FitsName name
FitsWhat (whats.StartRead name) = FitsName name
FitsWhat (whats.Read name seen) = FitsName name × IsBytes seen
FitsWhat (whats.StartWrite name) = FitsName name
FitsWhat (whats.Write name before after) = FitsName name × IsBytes before × IsBytes after
FitsWhat (whats.Flush name) = FitsName name
FitsWhat (whats.Deleting name) = FitsName name
FitsWhat (whats.Deleted name) = FitsName name
FitsWhat (whats.Come part) = FitsPart part
FitsWhat (whats.Came round fold) = (round < 2 ^ 64) × FitsFold fold
FitsWhat (whats.Refused kind place why) = FitsPlace place

-- each number of the entry is within the type of its field
abbrev pub FitsEntry : Entry → Type 0
FitsEntry entry = (entry.node < 2 ^ 16) × FitsWhat entry.what

abbrev pub FitsLine : Line → Type 0
FitsLine (lines.Entry entry) = FitsEntry entry
FitsLine (lines.Region name bytes) = FitsName name × IsBytes bytes
FitsLine (lines.StuckSection node name holder) = (node < 2 ^ 16) × FitsName name × (holder < 2 ^ 16)
FitsLine (lines.StuckRound node round absent) = (node < 2 ^ 16) × (round < 2 ^ 64) × (absent < 2 ^ 16)
FitsLine (lines.Counts events messages) = (events < 2 ^ 64) × (messages < 2 ^ 64)

-- ---- an account

-- the entry is printable; the bytes of a region are one at least
abbrev pub IsPrintableLine : Line → Type 0
IsPrintableLine (lines.Entry entry) = IsPrintable entry
IsPrintableLine (lines.Region name bytes) = bytes ≢ []
IsPrintableLine _ = Unit {0}

-- the bytes are what would be written for this line, but for the line feed
pub record IsLine (line : Line) (bytes : List ℕ) : Type 0 where
  pub text : bytes ++ codes "\n" ≡ line_text line
  pub printable : IsPrintableLine line
  pub fits : FitsLine line

-- where a line may stand
abbrev pub stage_of : Line → Stage
stage_of (lines.Entry entry) = stages.Entries
stage_of (lines.Region name bytes) = stages.Regions
stage_of (lines.StuckSection node name holder) = stages.Stuck
stage_of (lines.StuckRound node round absent) = stages.Stuck
stage_of (lines.Counts events messages) = stages.Counts

abbrev pub IsLineOf : Stage → List ℕ → Type 0
IsLineOf stage bytes = (line : Line) × (stage_of line ≡ stage) × IsLine line bytes

-- nothing, or a line of counts
abbrev pub AreCounts : List (List ℕ) → Type 0
AreCounts [] = Unit {0}
AreCounts (line ∷ []) = IsLineOf stages.Counts line
AreCounts (line ∷ other ∷ rest) = ⊥

-- lines of stuck nodes, and then those
abbrev pub AreStuck : List (List ℕ) → Type 0
AreStuck [] = Unit {0}
AreStuck (line ∷ rest) = (IsLineOf stages.Stuck line × AreStuck rest) ⊎ AreCounts (line ∷ rest)

-- lines of regions, and then those
abbrev pub AreRegions : List (List ℕ) → Type 0
AreRegions [] = Unit {0}
AreRegions (line ∷ rest) = (IsLineOf stages.Regions line × AreRegions rest) ⊎ AreStuck (line ∷ rest)

-- the lines of the entries, in order, and then those
abbrev pub IsAccount : List (List ℕ) → List Entry → Type 0
IsAccount rest [] = AreRegions rest
IsAccount [] (entry ∷ entries) = ⊥
IsAccount (line ∷ rest) (entry ∷ entries) = IsLine (lines.Entry entry) line × IsAccount rest entries

-- The line of this number, from 1, is the first that fits no allowed place: the lines before it are an
-- account, and with it they are none.
pub record IsFirstBad (all : List (List ℕ)) (number : ℕ) : Type 0 where
  pub front : List (List ℕ)
  pub line : List ℕ
  pub rest : List (List ℕ)
  pub parts : all ≡ front ++ line ∷ rest
  pub place : number ≡ length front + 1
  pub good : (entries : List Entry) × IsAccount front entries
  pub bad : (entries : List Entry) → IsAccount (front ++ line ∷ []) entries → ⊥

-- ---- what is written

-- an entry that is read again from its line
abbrev pub IsReadable : Entry → Type 0
IsReadable entry = IsPrintable entry × FitsEntry entry
