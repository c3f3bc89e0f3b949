-- One step of reading: which line may stand where, and what it adds.
use Rattle.std.specs.Prelude.{◌≡◌, ℕ, Bool, true, false, List, Option, Some, None, option_to_list}
use Rattle.crl_model.specs.declared.entry.Entry.{Entry}
use Rattle.crl_account.specs.declared.line.Line.{Line}
use Rattle.crl_account.specs.declared.line.Line.TheVariants as lines
use Rattle.crl_account.specs.declared.line.Stage.{Stage}
use Rattle.crl_account.specs.declared.line.Stage.TheVariants as stages
use Rattle.crl_account.specs.Account.{stage_of, IsLine}

-- whether a line of the first stage may stand behind the lines up to the second
abbrev pub follows : Stage → Stage → Bool
follows stages.Entries stages.Entries = true
follows stages.Regions stages.Entries = true
follows stages.Regions stages.Regions = true
follows stages.Stuck stages.Entries = true
follows stages.Stuck stages.Regions = true
follows stages.Stuck stages.Stuck = true
follows stages.Counts stages.Entries = true
follows stages.Counts stages.Regions = true
follows stages.Counts stages.Stuck = true
follows _ _ = false

-- the entry of a line, if it has one
abbrev pub entry_in : Line → Option Entry
entry_in (lines.Entry entry) = Some entry
entry_in _ = None

abbrev pub entries_in : Line → List Entry
entries_in line = option_to_list (entry_in line)

-- the text is a line that may stand behind lines up to the stage, of this next stage and with this entry
pub record Took (bytes : List ℕ) (stage next : Stage) (entry : Option Entry) : Type 0 where
  pub line : Line
  pub is : IsLine line bytes
  pub allowed : follows (stage_of line) stage ≡ true
  pub next_is : next ≡ stage_of line
  pub entry_is : entry ≡ entry_in line

-- the text is no line, or none that may stand here
abbrev pub IsRefused : List ℕ → Stage → Type 0
IsRefused bytes stage = (line : Line) → IsLine line bytes → follows (stage_of line) stage ≡ true → ⊥
