-- A run that others began, and its report: some words choose it.
use Rattle.std.specs.Prelude.{ℕ, Bool, List, length}
use Rattle.crl_model.specs.Reports.{Reported}
use Rattle.crl_model.specs.declared.statement.Statement.{Statement}
use Rattle.crl_protocol.specs.World.{World}
use Rattle.crl_protocol.specs.Chosen.{Running}
use Rattle.crl_deeds.specs.Laws.{IsChosenBySome}
use Rattle.crl_run.specs.PlayerState.{PlayerState}
use Rattle.crl_run.specs.Playing.{StandsFor}
use Rattle.crl_run.specs.Reporting.{IsReportOf}
use Rattle.crl_run.specs.Runs.{IsFaultOf}
use Rattle.crl_run.specs.Words.{words_then}
use Rattle.crl_run.specs.Turning.{IsAt}
use Rattle.crl_run.specs.declared.finishing.Printed.{Printed}
use Rattle.crl_run.specs.declared.running.RunFault.{RunFault}

-- The world and the players stand for a run on its way, which some words chose so far.
pub record IsAtTurn (capacity : ℕ) (blocks : List (List Statement)) (w : World) (players : List PlayerState) : Type 0 where
  pub reached : Running
  pub chosen : IsChosenBySome (length players) capacity blocks reached
  pub stands : StandsFor capacity blocks reached w players

abbrev pub IsAtSomeTurn : List (List Statement) → World → List PlayerState → Type 0
IsAtSomeTurn blocks w players = (capacity : ℕ) × IsAtTurn capacity blocks w players

-- It is printed of the run that such words choose, and these words then.
abbrev pub IsPrintedFrom : List (List Statement) → (ℕ → ℕ) → World → List PlayerState → Printed → Type 0
IsPrintedFrom blocks rest w players printed =
    (capacity : ℕ) (words : ℕ → ℕ) (k : ℕ) → IsAt capacity blocks words k w players → IsReportOf (length players) capacity blocks (words_then k words rest) printed.stuck printed.report

-- The report is of a run that some words choose.
abbrev pub IsReportOfSome : ℕ → ℕ → List (List Statement) → Bool → Reported → Type 0
IsReportOfSome count capacity blocks stuck printed = (words : ℕ → ℕ) × IsReportOf count capacity blocks words stuck printed

abbrev pub IsFaultOfSome : ℕ → ℕ → List (List Statement) → RunFault → Type 0
IsFaultOfSome count capacity blocks fault = (words : ℕ → ℕ) × IsFaultOf count capacity blocks words fault
