-- What a run returns.
use Rattle.std.specs.Prelude.{◌≡◌, ℕ, ◌<◌, Bool, true, List, [], length}
use Rattle.crl_model.specs.Reports.{Reported}
use Rattle.crl_model.specs.declared.statement.Statement.{Statement}
use Rattle.crl_run.specs.PlayerState.{PlayerState}
use Rattle.crl_run.specs.Playing.{player_of}
use Rattle.crl_run.specs.Reporting.{IsReportOf}
use Rattle.crl_run.specs.declared.running.RunFault.{RunFault}
use Rattle.crl_run.specs.declared.running.RunFault.TheVariants.{Stuck, OutOfMemory}

-- so many players that did nothing yet
pub record AreNewPlayers (count : ℕ) (players : List PlayerState) : Type 0 where
  pub many : length players ≡ count
  pub are : (i : ℕ) → i < count → ((player_of players i).place ≡ 0) × ((player_of players i).guards ≡ [])

-- the fault has the report of a run that is stuck
abbrev pub HasReport : Bool → Reported → RunFault → Type 0
HasReport stuck report (Stuck r) = (stuck ≡ true) × (r ≡ report)
HasReport stuck report OutOfMemory = ⊥

abbrev pub IsFaultOf : ℕ → ℕ → List (List Statement) → (ℕ → ℕ) → RunFault → Type 0
IsFaultOf count capacity blocks words (Stuck report) = IsReportOf count capacity blocks words true report
IsFaultOf count capacity blocks words OutOfMemory = Unit {0}
