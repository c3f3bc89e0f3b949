-- What the program answers: for each status, where it comes and what is printed with it.
use Rattle.std.specs.Prelude.{◌≡◌, ◌⊎◌, ℕ, ◌+◌, ◌<◌, ◌≤◌, Bool, true, false, List, [], length, Err}
use Rattle.std.specs.declared.option.Option.{Option}
use Rattle.std.specs.declared.option.Option.TheVariants.{None, Some}
use Rattle.std.specs.Io.KnownBytes.{Consumes, IsAtEnd}
use Rattle.crl_model.specs.declared.entry.Entry.{Entry}
use Rattle.crl_machine.specs.SingleMachine.{start, IsHistory}
use Rattle.crl_outside.specs.Faults.{Rose}
use Rattle.crl_order.specs.Words.{words_to_come}
use Rattle.crl_script.specs.Program.{Program, Fault}
use Rattle.crl_script.specs.Sentence.{script_of}
use Rattle.crl_account.specs.Account.{lines_of, IsAccount, IsFirstBad}
use Rattle.crl_check.specs.Histories.{IsFirstIllegal}
use Rattle.crl_commands.specs.declared.command.Command.{Command}
use Rattle.crl_commands.specs.declared.command.Command.TheVariants as command
use Rattle.crl_commands.specs.declared.command.Recipe.{Recipe}
use Rattle.crl_cli.specs.declared.TheConstants.{SCRIPT_LIMIT, ACCOUNT_LIMIT}
use Rattle.crl_cli.specs.declared.status.Status.{Status}
use Rattle.crl_cli.specs.declared.status.Status.TheVariants as status
use Rattle.crl_cli.specs.Runs.{IsAccountOf, IsAccountOfScript, IsMade, IsSummary}
use Rattle.crl_cli.specs.Texts.{usage_text, read_fault_text, bad_script_text, why_word, too_long_text, legal_text, illegal_text, bad_account_text}

-- whether the command reads a text, and the most bytes that it may have
abbrev pub does_read : Command → Bool
does_read (command.Order order) = true
does_read (command.Check nodes) = true
does_read (command.Gen recipe) = false
does_read (command.Summary recipe) = false
does_read (command.Threads workers) = true

abbrev pub reads_any : Option Command → Bool
reads_any None = false
reads_any (Some c) = does_read c

abbrev pub limit_of : Command → ℕ
limit_of (command.Order order) = SCRIPT_LIMIT
limit_of (command.Check nodes) = ACCOUNT_LIMIT
limit_of (command.Gen recipe) = 0
limit_of (command.Summary recipe) = 0
limit_of (command.Threads workers) = SCRIPT_LIMIT

-- the commands of a call that waits for nobody
abbrev pub quietly : Option Command → Option Command
quietly (Some (command.Threads workers)) = None
quietly other = other

abbrev pub IsQuiet : Command → Type 0
IsQuiet (command.Threads workers) = ⊥
IsQuiet _ = Unit {0}

-- the bytes that were read: all that the source had, or one more than the text may have
pub record IsInput (limit : ℕ) (left later : Option (List ℕ)) (bytes : List ℕ) : Type 0 where
  pub taken : Consumes left later bytes
  pub whole : (length bytes ≡ limit + 1) ⊎ IsAtEnd later

-- the bytes are too many, or aren't a script, and the text says so
pub data IsBadScript (bytes : List ℕ) : List ℕ → Type 0 where
  too_long : SCRIPT_LIMIT < length bytes → IsBadScript bytes too_long_text
  unread : (fault : Fault) → length bytes ≤ SCRIPT_LIMIT → script_of bytes ≡ Err fault → IsBadScript bytes (bad_script_text fault.line (why_word fault.why))

-- The bytes are the account of a history that is no legal one: this is the first entry that is no legal
-- step, each on its line.
pub record IsIllegal (nodes : ℕ) (bytes text : List ℕ) : Type 0 where
  pub within : length bytes ≤ ACCOUNT_LIMIT
  pub entries : List Entry
  pub account : IsAccount (lines_of bytes) entries
  pub place : ℕ
  pub first : IsFirstIllegal (start nodes) entries place
  pub says : text ≡ illegal_text (place + 1)

-- the bytes are the account of a legal history
pub record IsLegalAccount (nodes : ℕ) (bytes text : List ℕ) : Type 0 where
  pub within : length bytes ≤ ACCOUNT_LIMIT
  pub entries : List Entry
  pub account : IsAccount (lines_of bytes) entries
  pub legal : IsHistory (start nodes) entries
  pub says : text ≡ legal_text

-- the bytes are too many, or this line is the first that fits no place, and the text says so
pub data IsBadAccount (bytes : List ℕ) : List ℕ → Type 0 where
  account_too_long : ACCOUNT_LIMIT < length bytes → IsBadAccount bytes (bad_account_text 0)
  bad_line : (line : ℕ) → length bytes ≤ ACCOUNT_LIMIT → IsFirstBad (lines_of bytes) line → IsBadAccount bytes (bad_account_text line)

-- what a command says of the bytes that were read
abbrev pub SaysOrder : (ℕ → ℕ) → Status → List ℕ → List ℕ → Type 0
SaysOrder words status.Ok bytes text = IsAccountOfScript words false bytes text
SaysOrder words status.Stuck bytes text = IsAccountOfScript words true bytes text
SaysOrder words status.BadScript bytes text = IsBadScript bytes text
SaysOrder words _ bytes text = ⊥

-- of a run that some words choose
abbrev pub SaysSome : Status → List ℕ → List ℕ → Type 0
SaysSome status bytes text = (words : ℕ → ℕ) × SaysOrder words status bytes text

abbrev pub SaysCheck : ℕ → Status → List ℕ → List ℕ → Type 0
SaysCheck nodes status.Ok bytes text = IsLegalAccount nodes bytes text
SaysCheck nodes status.Illegal bytes text = IsIllegal nodes bytes text
SaysCheck nodes status.BadAccount bytes text = IsBadAccount bytes text
SaysCheck nodes _ bytes text = ⊥

abbrev pub SaysMade : Recipe → Status → List ℕ → Type 0
SaysMade recipe status.Ok text = IsMade recipe text
SaysMade recipe _ text = ⊥

abbrev pub SaysSummary : Recipe → Status → List ℕ → Type 0
SaysSummary recipe status.Ok text = IsSummary recipe text
SaysSummary recipe _ text = ⊥

abbrev pub Says : Command → Status → List ℕ → List ℕ → Type 0
Says (command.Order order) status bytes text = SaysOrder (words_to_come order) status bytes text
Says (command.Check nodes) status bytes text = SaysCheck nodes status bytes text
Says (command.Gen recipe) status bytes text = SaysMade recipe status text
Says (command.Summary recipe) status bytes text = SaysSummary recipe status text
Says (command.Threads workers) status bytes text = SaysSome status bytes text

-- the status of a run that is stuck, or isn't
abbrev pub status_of : Bool → Status
status_of true = status.Stuck
status_of false = status.Ok

-- what is said of a script
abbrev pub SaysOf : (ℕ → ℕ) → Status → Program → List ℕ → Type 0
SaysOf words status.Ok program text = IsAccountOf program words false text
SaysOf words status.Stuck program text = IsAccountOf program words true text
SaysOf words _ program text = ⊥

-- what an answer rests on: the command that the words are, the bytes that the source has left before and after, and the
-- counts of its faults before and after
pub record Asked : Type 0 where
  pub command : Option Command
  pub left : Option (List ℕ)
  pub later : Option (List ℕ)
  pub faults : ℕ
  pub faults_later : ℕ

abbrev pub asked : Option Command → Option (List ℕ) → Option (List ℕ) → ℕ → ℕ → Asked
asked command left later faults faults_later = record { command = command; left = left; later = later; faults = faults; faults_later = faults_later }

-- The status comes, with this text: the words are no command; the source failed; or the command says so, of the bytes that
-- were read if it reads any.
pub data Comes (a : Asked) : Status → List ℕ → Type 0 where
  usage : a.command ≡ None → Comes a status.Usage usage_text
  read_fault : (c : Command) → a.command ≡ Some c → does_read c ≡ true → Rose a.faults a.faults_later → Comes a status.ReadFault read_fault_text
  said : (c : Command) (status : Status) (bytes text : List ℕ) → a.command ≡ Some c → does_read c ≡ true → IsInput (limit_of c) a.left a.later bytes
      → Says c status bytes text → Comes a status text
  made : (c : Command) (status : Status) (text : List ℕ) → a.command ≡ Some c → does_read c ≡ false → Says c status [] text → Comes a status text
