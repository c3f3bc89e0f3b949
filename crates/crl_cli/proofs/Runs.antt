-- The run of a script is one history, and that of a script that a recipe makes isn't stuck.
use Rattle.std.proofs.Common.{◌≡◌, ◌≤◌, ◌^◌, ◌∙◌, ℕ, Bool, false, true, List, length, map, sym, subst, Ok, Err}
use Rattle.std.specs.Prelude.{sum, Result, MatchResult}
use Rattle.crl_model.specs.declared.statement.Statement.{Statement}
use Rattle.crl_model.specs.Reports.{Reported}
use Rattle.crl_deeds.specs.Laws.{AreStatements}
use Rattle.crl_stuck.specs.Ends.{statements_in}
use Rattle.crl_order.specs.Words.{words_of_seed}
use Rattle.crl_script.specs.Again.{IsScript}
use Rattle.crl_script.specs.Program.{Program}
use Rattle.crl_run.specs.Reporting.{IsReportOf}
use Rattle.crl_run.specs.Runs.{IsFaultOf}
use Rattle.crl_run.specs.Finishing.{IsReportOfSome, IsFaultOfSome}
use Rattle.crl_run.specs.declared.running.RunFault.{RunFault}
use Rattle.crl_run.specs.declared.running.RunFault.TheVariants.{Stuck, OutOfMemory}
use Rattle.crl_run.proofs.Laws.{are_statements, statements_in_sum}
use Rattle.crl_headline.specs.Histories.{IsOneHistory, ReportsAreHistories}
use Rattle.crl_commands.specs.declared.command.Recipe.{Recipe}
use Rattle.crl_gen.specs.Finishing.{MadeFinishes}
use Rattle.crl_cli.specs.declared.running.Ended.{Ended}
use Rattle.crl_cli.specs.Reading.{IsEndOf}
use Rattle.crl_cli.specs.Runs.{IsHistoryOf, made_of}

-- Blocks that are a script's, of so many nodes.
module _ (program : Program) (nodes cache : ℕ) (given : List (List Statement)) (is : given ≡ program.blocks) (many : nodes ≡ program.nodes) (script : IsScript program) where
  pub few : sum (map length program.blocks) ≤ 2 ^ 40 → statements_in nodes given ≤ 2 ^ 40
  few within =
      subst (λ (b : List (List Statement)). statements_in nodes b ≤ 2 ^ 40) (sym is)
      (subst (λ k. k ≤ 2 ^ 40) (sym (statements_in_sum nodes program.blocks (sym script.nodes ∙ sym many))) within)

  are : AreStatements given
  are = subst AreStatements (sym is) (are_statements program.blocks script.statements)

  pub history : (words : ℕ → ℕ) (stuck : Bool) (report : Reported) → ReportsAreHistories → cache ≡ program.cache → nodes ≤ 64 → sum (map length program.blocks) ≤ 2 ^ 40
      → IsReportOf nodes cache given words stuck report → IsHistoryOf program words stuck report
  history words stuck report law same within all r =
      subst (λ n. IsOneHistory n program.cache program.blocks words stuck report) many
      (subst (λ k. IsOneHistory nodes k program.blocks words stuck report) same
      (subst (λ (b : List (List Statement)). IsOneHistory nodes cache b words stuck report) is
      (law nodes cache given words stuck report within are (few all) r)))

-- What a run returned is the report of its end.
pub ended_report : (r : Result Reported RunFault) (e : Ended) (nodes cache : ℕ) (blocks : List (List Statement)) (words : ℕ → ℕ) → IsEndOf r e
    → MatchResult r (IsReportOf nodes cache blocks words false) (IsFaultOf nodes cache blocks words) → IsReportOf nodes cache blocks words e.stuck e.report
ended_report (Ok report) e nodes cache blocks words is h = subst (λ b. IsReportOf nodes cache blocks words b e.report) (sym is.0) (subst (IsReportOf nodes cache blocks words false) (sym is.1) h)
ended_report (Err (Stuck report)) e nodes cache blocks words is h = subst (λ b. IsReportOf nodes cache blocks words b e.report) (sym is.0) (subst (IsReportOf nodes cache blocks words true) (sym is.1) h)
ended_report (Err OutOfMemory) e nodes cache blocks words is h = absurd is

pub ended_some : (r : Result Reported RunFault) (e : Ended) (nodes cache : ℕ) (blocks : List (List Statement)) → IsEndOf r e
    → MatchResult r (IsReportOfSome nodes cache blocks false) (IsFaultOfSome nodes cache blocks) → (words : ℕ → ℕ) × IsReportOf nodes cache blocks words e.stuck e.report
ended_some (Ok report) e nodes cache blocks is h = (h.0, ended_report (Ok report) e nodes cache blocks h.0 is h.1)
ended_some (Err fault) e nodes cache blocks is h = (h.0, ended_report (Err fault) e nodes cache blocks h.0 is h.1)

pub not_stuck : (recipe : Recipe) (program : Program) (words : ℕ → ℕ) (stuck : Bool) (report : Reported) → MadeFinishes (words_of_seed recipe.seed) recipe.nodes recipe.regions recipe.rounds → program ≡ made_of recipe
    → IsHistoryOf program words stuck report → stuck ≡ false
not_stuck recipe program words stuck report law same is =
    let made : IsHistoryOf (made_of recipe) words stuck report = subst (λ (p : Program). IsHistoryOf p words stuck report) same is in
    sym made.is_so ∙ (law.done (made_of recipe).cache words made.end made.chosen).not_stuck

pub made_history : (recipe : Recipe) (program : Program) (words : ℕ → ℕ) (stuck : Bool) (report : Reported) → program ≡ made_of recipe → words ≡ words_of_seed recipe.seed → stuck ≡ false
    → IsHistoryOf program words stuck report → IsHistoryOf (made_of recipe) (words_of_seed recipe.seed) false report
made_history recipe program words stuck report same order out is =
    subst (λ b. IsHistoryOf (made_of recipe) (words_of_seed recipe.seed) b report) out
    (subst (λ (w : ℕ → ℕ). IsHistoryOf (made_of recipe) w stuck report) order
    (subst (λ (p : Program). IsHistoryOf p words stuck report) same is))
