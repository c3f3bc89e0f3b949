use Rattle.std.proofs.Common.{◌≡◌, ◌≤◌, ◌^◌, ◌∙◌, ℕ, List, length, map, refl, sym, subst}
use Rattle.std.specs.Prelude.{sum}
use Rattle.crl_model.specs.declared.statement.Statement.{Statement}
use Rattle.crl_stuck.specs.Ends.{statements_in}
use Rattle.crl_run.proofs.Laws.{statements_in_sum}
use Rattle.crl_crew_tests.proofs.playing.play.Goals as goal

few : (nodes : ℕ) (given blocks : List (List Statement)) → given ≡ blocks → length blocks ≡ nodes → sum (map length blocks) ≤ 2 ^ 40 → statements_in nodes given ≤ 2 ^ 40
few nodes given blocks is many within =
    subst (λ (b : List (List Statement)). statements_in nodes b ≤ 2 ^ 40) (sym is) (subst (λ k. k ≤ 2 ^ 40) (sym (statements_in_sum nodes blocks many)) within)

pub work-requires-clause-few : goal.work-requires-clause-few
work-requires-clause-few g c = λ κs lives. few c.nodes.result _ c.args.script.now.blocks c.blocks-2.ensures c.nodes.ensures.blocks (c.if-not-fits.ensures.0 refl)
