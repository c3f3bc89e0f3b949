use Rattle.std.proofs.Common.{refl}
use Rattle.std.proofs.lemmas.Result.{IfOk-weaker}
use Rattle.crl_cli.proofs.Runs.{few, history, ended_report}
use Rattle.crl_cli.proofs.running.run_script.Goals as goal

pub run-requires-clause-few : goal.run-requires-clause-few
run-requires-clause-few c = few c.args.script.now c.nodes.result c.cache.result _ c.blocks-2.ensures c.nodes.ensures.count c.nodes.ensures.script (c.if-not-fits.ensures.0 refl)

pub returns : goal.returns
returns c =
    IfOk-weaker c.ended_of.result _ _
    (λ e is.
    history c.args.script.now c.nodes.result c.cache.result _ c.blocks-2.ensures c.nodes.ensures.count c.nodes.ensures.script _ e.stuck e.report c.reports_are_histories.ensures c.cache.ensures
    c.nodes.ensures.limit (c.if-not-fits.ensures.0 refl) (ended_report c.run.result e _ _ _ _ is c.run.ensures))
    c.ended_of.ensures
