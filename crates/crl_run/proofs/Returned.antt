-- What is returned of a run whose end was printed.
use Rattle.std.proofs.Common.{◌≡◌, sym, false, ℕ, List, subst, Ok, Err}
use Rattle.std.specs.Prelude.{Result, MatchResult}
use Rattle.crl_model.specs.Reports.{Reported}
use Rattle.crl_model.specs.declared.statement.Statement.{Statement}
use Rattle.crl_run.specs.declared.finishing.Printed.{Printed}
use Rattle.crl_run.specs.declared.running.RunFault.{RunFault}
use Rattle.crl_run.specs.declared.running.RunFault.TheVariants.{Stuck, OutOfMemory}
use Rattle.crl_run.specs.Words.{words_then}
use Rattle.crl_run.specs.Reporting.{IsReportOf}
use Rattle.crl_run.specs.Runs.{IsFaultOf, HasReport}
use Rattle.crl_run.specs.Finishing.{IsReportOfSome, IsFaultOfSome}
use Rattle.crl_run.proofs.AllTurns.{then_itself}

abbrev pub IsReturned : ℕ → ℕ → List (List Statement) → (ℕ → ℕ) → Result Reported RunFault → Type 0
IsReturned count capacity blocks words r = MatchResult r (IsReportOf count capacity blocks words false) (IsFaultOf count capacity blocks words)

-- the report, or the fault that has it
pub printed_returned : (r : Result Reported RunFault) (printed : Printed) (count capacity : ℕ) (blocks : List (List Statement)) (words : ℕ → ℕ) → IsReportOf count capacity blocks words printed.stuck printed.report
    → MatchResult r (λ report. (printed.stuck ≡ false) × (report ≡ printed.report)) (HasReport printed.stuck printed.report) → IsReturned count capacity blocks words r
printed_returned (Ok report) printed count capacity blocks words is h =
    subst (λ b. IsReportOf count capacity blocks words b report) h.0 (subst (IsReportOf count capacity blocks words printed.stuck) (sym h.1) is)
printed_returned (Err (Stuck report)) printed count capacity blocks words is h =
    subst (λ b. IsReportOf count capacity blocks words b report) h.0 (subst (IsReportOf count capacity blocks words printed.stuck) (sym h.1) is)
printed_returned (Err OutOfMemory) printed count capacity blocks words is h = absurd h

-- of a run that some words choose
pub some_returned : (r : Result Reported RunFault) (count capacity : ℕ) (blocks : List (List Statement)) (words : ℕ → ℕ) → IsReturned count capacity blocks words r
    → MatchResult r (IsReportOfSome count capacity blocks false) (IsFaultOfSome count capacity blocks)
some_returned (Ok report) count capacity blocks words is = (words, is)
some_returned (Err fault) count capacity blocks words is = (words, is)

-- of a run whose words go on with themselves
pub run_returned : (r : Result Reported RunFault) (count nodes capacity : ℕ) (blocks : List (List Statement)) (words : ℕ → ℕ) → count ≡ nodes → IsReturned count capacity blocks (words_then 0 words words) r
    → IsReturned nodes capacity blocks words r
run_returned r count nodes capacity blocks words same is =
    subst (λ n. IsReturned n capacity blocks words r) same (subst (λ (w : ℕ → ℕ). IsReturned count capacity blocks w r) (then_itself words) is)
