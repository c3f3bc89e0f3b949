-- The first entry of a list that is no legal step, and what is said of a list.
use Rattle.std.specs.Prelude.{◌≡◌, ℕ, List, ◌∷◌, ◌++◌, length, Result, Ok, Err}
use Rattle.crl_model.specs.declared.entry.Entry.{Entry}
use Rattle.crl_machine.specs.SingleMachine.{State, IsLegal, IsHistory, after_all}
use Rattle.crl_check.specs.declared.fault.CheckFault.{CheckFault}
use Rattle.crl_check.specs.declared.fault.CheckFault.TheVariants as faults

-- the entries before it are a legal history, and it is no legal step after them
pub record IsFirstIllegal (s : State) (entries : List Entry) (i : ℕ) : Type 0 where
  pub before : List Entry
  pub entry : Entry
  pub behind : List Entry
  pub whole : entries ≡ before ++ entry ∷ behind
  pub place : i ≡ length before
  pub legal : IsHistory s before
  pub illegal : IsLegal (after_all s before) entry → ⊥

-- what is said of entries that are no lines of a text: they are a legal history, this is the first that is no legal step,
-- or memory is wanting
abbrev pub SaysOf : State → List Entry → Result (Unit {0}) CheckFault → Type 0
SaysOf s entries (Ok unit) = IsHistory s entries
SaysOf s entries (Err (faults.Illegal i)) = IsFirstIllegal s entries i
SaysOf s entries (Err (faults.BadLine line)) = ⊥
SaysOf s entries (Err faults.OutOfMemory) = Unit {0}
