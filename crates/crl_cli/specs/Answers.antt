-- What a call of the program leaves in the sink, by its status.
use Rattle.std.specs.Prelude.{ℕ, Bool, true, false, List}
use Rattle.std.specs.declared.option.Option.{Option}
use Rattle.std.specs.Io.KnownBytes.{Appends}
use Rattle.crl_order.specs.declared.order.Order.{Order}
use Rattle.crl_order.specs.Words.{words_to_come}
use Rattle.crl_outside.specs.Faults.{AppendsFront}
use Rattle.crl_commands.specs.Commands.{command_of}
use Rattle.crl_cli.specs.declared.TheConstants.{SCRIPT_LIMIT}
use Rattle.crl_cli.specs.declared.outcome.Outcome.{Outcome}
use Rattle.crl_cli.specs.declared.status.Status.{Status}
use Rattle.crl_cli.specs.declared.status.Status.TheVariants as status
use Rattle.crl_cli.specs.Outcome.{Asked, asked, Comes, IsInput}
use Rattle.crl_cli.specs.Runs.{IsAccountOfScript}

-- The text of the status was printed whole; a fault of the sink left a first part of the text of some
-- status; without memory nothing is said here.
abbrev pub Prints : Asked → Option (List ℕ) → Option (List ℕ) → Status → Type 0
Prints a held later status.WriteFault = (s : Status) × (text : List ℕ) × Comes a s text × AppendsFront held later text
Prints a held later status.OutOfMemory = Unit {0}
Prints a held later s = (text : List ℕ) × Comes a s text × Appends held later text

-- The same for some words.
abbrev pub PrintsForWords : Option (List ℕ) → Option (List ℕ) → ℕ → ℕ → Option (List ℕ) → Option (List ℕ) → Status → Type 0
PrintsForWords left left_later faults faults_later held held_later s =
    (words : List (List ℕ)) × Prints (asked (command_of words) left left_later faults faults_later) held held_later s

-- The headline: the bytes that were read are a script, the text is the account of the run that the script and an order with
-- these words choose, stuck or not, which is one history of the single machine, and the sink holds the text after what it held.
pub record IsHeadline (words : ℕ → ℕ) (stuck : Bool) (left later held held_later : Option (List ℕ)) : Type 0 where
  pub bytes : List ℕ
  pub text : List ℕ
  pub input : IsInput SCRIPT_LIMIT left later bytes
  pub run : IsAccountOfScript words stuck bytes text
  pub shown : Appends held held_later text

-- It comes with status 0 of a run that isn't stuck, and with status 3 of one that is.
abbrev pub HasHeadlineBy : (ℕ → ℕ) → Option (List ℕ) → Option (List ℕ) → Option (List ℕ) → Option (List ℕ) → Status → Type 0
HasHeadlineBy words left later held held_later status.Ok = IsHeadline words false left later held held_later
HasHeadlineBy words left later held held_later status.Stuck = IsHeadline words true left later held held_later
HasHeadlineBy words left later held held_later s = Unit {0}

-- the headline of an order
abbrev pub HasHeadline : Order → Option (List ℕ) → Option (List ℕ) → Option (List ℕ) → Option (List ℕ) → Status → Type 0
HasHeadline order left later held held_later s = HasHeadlineBy (words_to_come order) left later held held_later s

-- The headline of threads, whose order nobody chose: some words choose their run.
abbrev pub HasSomeHeadline : Option (List ℕ) → Option (List ℕ) → Option (List ℕ) → Option (List ℕ) → Status → Type 0
HasSomeHeadline left later held held_later s = (words : ℕ → ℕ) × HasHeadlineBy words left later held held_later s

-- the outcome of some answer
abbrev pub IsAnswered : Outcome → Type 0
IsAnswered o = (a : Asked) × Comes a o.status o.text.items
