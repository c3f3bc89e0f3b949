-- What is said of a text: it is the account of a legal history, or of one that isn't, or no account.
use Rattle.std.specs.Prelude.{ℕ, ◌<◌, List, length, Result, Ok, Err}
use Rattle.crl_model.specs.declared.entry.Entry.{Entry}
use Rattle.crl_machine.specs.SingleMachine.{State, IsHistory}
use Rattle.crl_account_reader.specs.Reader.{IsWhole, IsBroken}
use Rattle.crl_check.specs.declared.fault.CheckFault.{CheckFault}
use Rattle.crl_check.specs.declared.fault.CheckFault.TheVariants as faults
use Rattle.crl_check.specs.Histories.{IsFirstIllegal}

-- the text is an account of these entries, and they are a legal history
pub record IsLegalText (s : State) (text : List ℕ) : Type 0 where
  pub entries : List Entry
  pub whole : IsWhole text entries
  pub legal : IsHistory s entries

-- The text is an account of these entries, and this is the first of them that is no legal step. Each takes a byte at least.
pub record IsIllegalText (s : State) (text : List ℕ) (i : ℕ) : Type 0 where
  pub entries : List Entry
  pub whole : IsWhole text entries
  pub first : IsFirstIllegal s entries i
  pub inside : i < length text

abbrev pub SaysOfText : State → List ℕ → Result (Unit {0}) CheckFault → Type 0
SaysOfText s text (Ok unit) = IsLegalText s text
SaysOfText s text (Err (faults.Illegal i)) = IsIllegalText s text i
SaysOfText s text (Err (faults.BadLine line)) = IsBroken text line
SaysOfText s text (Err faults.OutOfMemory) = Unit {0}
