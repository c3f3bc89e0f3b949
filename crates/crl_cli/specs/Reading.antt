-- What is said of bytes that may be a script, and how a run of it ended.
use Rattle.std.specs.Prelude.{◌≡◌, ℕ, ◌≤◌, true, false, List, length, Result, Ok, Err}
use Rattle.crl_model.specs.Reports.{Reported}
use Rattle.crl_script.specs.Program.{Program}
use Rattle.crl_script.specs.Sentence.{script_of}
use Rattle.crl_run.specs.declared.running.RunFault.{RunFault}
use Rattle.crl_run.specs.declared.running.RunFault.TheVariants.{Stuck, OutOfMemory}
use Rattle.crl_cli.specs.declared.TheConstants.{SCRIPT_LIMIT}
use Rattle.crl_cli.specs.declared.account.Unread.{Unread}
use Rattle.crl_cli.specs.declared.account.Unread.TheVariants as unread
use Rattle.crl_cli.specs.declared.outcome.Outcome.{Outcome}
use Rattle.crl_cli.specs.declared.running.Ended.{Ended}
use Rattle.crl_cli.specs.declared.status.Status.TheVariants as status
use Rattle.crl_cli.specs.Outcome.{IsBadScript}

-- the bytes are this script
pub record IsScriptOf (bytes : List ℕ) (program : Program) : Type 0 where
  pub within : length bytes ≤ SCRIPT_LIMIT
  pub reads : script_of bytes ≡ Ok program

-- the bytes are none, and the answer says so
abbrev pub IsUnread : List ℕ → Unread → Type 0
IsUnread bytes (unread.Bad o) = (o.status ≡ status.BadScript) × IsBadScript bytes o.text.items
IsUnread bytes unread.OutOfMemory = Unit {0}

-- there is no script, for this answer
abbrev pub unread_for : {E : Type 0} → Result Outcome E → Unread
unread_for (Ok o) = unread.Bad o
unread_for (Err e) = unread.OutOfMemory

-- what the run of a script returned, as its end
abbrev pub IsEndOf : Result Reported RunFault → Ended → Type 0
IsEndOf (Ok report) e = (e.stuck ≡ false) × (e.report ≡ report)
IsEndOf (Err (Stuck report)) e = (e.stuck ≡ true) × (e.report ≡ report)
IsEndOf (Err OutOfMemory) e = ⊥
