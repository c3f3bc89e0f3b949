use Rattle.std.proofs.Common.{◌∙◌, sym, true≢false}
use Rattle.crl_cli.proofs.Runs.{not_stuck, made_history}
use Rattle.crl_cli.proofs.summary.report_of.Goals as goal

pub unreachable-requires : goal.unreachable-requires
unreachable-requires c =
    true≢false
    (sym c.if-ended.true ∙ not_stuck c.args.recipe c.in_ok-script.script _ _ c.in_ok-ended.ended.report (c.made_scripts_finish.ensures _ c.args.recipe.nodes c.args.recipe.regions c.args.recipe.rounds) c.in_ok-script.ensures.made c.in_ok-ended.ensures)

pub returns : goal.returns
returns c = made_history c.args.recipe c.in_ok-script.script _ c.in_ok-ended.ended.stuck c.in_ok-ended.ended.report c.in_ok-script.ensures.made c.seed.ensures c.if-ended.false c.in_ok-ended.ensures
