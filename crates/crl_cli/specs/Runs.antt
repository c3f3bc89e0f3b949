-- What is printed of a script's run.
use Rattle.std.specs.Prelude.{◌≡◌, ℕ, ◌≤◌, Bool, true, false, List, length, filter, Ok}
use Rattle.crl_model.specs.declared.entry.Entry.{Entry}
use Rattle.crl_model.specs.declared.entry.What.{What}
use Rattle.crl_model.specs.declared.entry.What.TheVariants as what
use Rattle.crl_model.specs.Reports.{Reported}
use Rattle.crl_order.specs.Words.{words_of_seed}
use Rattle.crl_script.specs.Program.{Program}
use Rattle.crl_script.specs.Canonical.{canonical_of}
use Rattle.crl_script.specs.Sentence.{script_of}
use Rattle.crl_account.specs.Account.{lines_of, IsAccount}
use Rattle.crl_account.specs.Text.{report_text}
use Rattle.crl_commands.specs.declared.command.Recipe.{Recipe}
use Rattle.crl_gen.specs.Making.{script_made}
use Rattle.crl_headline.specs.Histories.{IsOneHistory}
use Rattle.crl_cli.specs.declared.TheConstants.{SCRIPT_LIMIT}
use Rattle.crl_cli.specs.Texts.{summary_text}

-- The report is one history: that of the run which the script and an order with these words choose.
abbrev pub IsHistoryOf : Program → (ℕ → ℕ) → Bool → Reported → Type 0
IsHistoryOf program words stuck report = IsOneHistory program.nodes program.cache program.blocks words stuck report

-- It is that of a run which some words choose.
abbrev pub IsSomeHistoryOf : Program → Bool → Reported → Type 0
IsSomeHistoryOf program stuck report = (words : ℕ → ℕ) × IsHistoryOf program words stuck report

-- The text has the lines of such a report, and `check` reads it as the report's entries.
pub record IsAccountOf (program : Program) (words : ℕ → ℕ) (stuck : Bool) (text : List ℕ) : Type 0 where
  pub report : Reported
  pub history : IsHistoryOf program words stuck report
  pub printed : text ≡ report_text report
  pub judged : IsAccount (lines_of text) report.entries

-- The bytes are a script, and the text is its account.
pub record IsAccountOfScript (words : ℕ → ℕ) (stuck : Bool) (bytes text : List ℕ) : Type 0 where
  pub program : Program
  pub within : length bytes ≤ SCRIPT_LIMIT
  pub reads : script_of bytes ≡ Ok program
  pub account : IsAccountOf program words stuck text

-- the script that is made of a recipe
abbrev pub made_of : Recipe → Program
made_of r = script_made (words_of_seed r.seed) r.nodes r.regions r.rounds

-- The text is the script that a recipe makes, and is read as that script.
pub record IsMade (recipe : Recipe) (text : List ℕ) : Type 0 where
  pub printed : text ≡ canonical_of (made_of recipe)
  pub again : script_of text ≡ Ok (made_of recipe)

-- the entry ends a section; how many sections were ended
abbrev pub ends_section : What → Bool
ends_section (what.Read name seen) = true
ends_section (what.Write name before after) = true
ends_section _ = false

abbrev pub is_section : Entry → Bool
is_section entry = ends_section entry.what

abbrev pub sections_in : List Entry → ℕ
sections_in entries = length (filter is_section entries)

-- The text sums up the run of the script that a recipe makes, under the order of its seed. That run isn't stuck.
pub record IsSummary (recipe : Recipe) (text : List ℕ) : Type 0 where
  pub report : Reported
  pub history : IsHistoryOf (made_of recipe) (words_of_seed recipe.seed) false report
  pub printed : text ≡ summary_text recipe.nodes recipe.regions (sections_in report.entries) report.events report.messages
