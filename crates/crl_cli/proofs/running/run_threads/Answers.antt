use Rattle.std.proofs.Common.{refl}
use Rattle.std.proofs.lemmas.Result.{IfOk-weaker}
use Rattle.crl_cli.proofs.Runs.{few, history, ended_some}
use Rattle.crl_cli.proofs.running.run_threads.Goals as goal

pub work-requires-clause-few : goal.work-requires-clause-few
work-requires-clause-few g c = λ κs lives. few c.args.script.now c.nodes.result c.cache.result _ c.blocks-2.ensures c.nodes.ensures.count c.nodes.ensures.script (c.if-not-fits.ensures.0 refl)

pub returns : goal.returns
returns g c =
    IfOk-weaker c.ended_of.result _ _
    (λ e is.
    let some = ended_some c.work.result e _ _ _ is c.work.ensures in (
      some.0,
      history c.args.script.now c.nodes.result c.cache.result _ c.blocks-2.ensures c.nodes.ensures.count c.nodes.ensures.script some.0 e.stuck e.report c.reports_are_histories.ensures c.cache.ensures
          c.nodes.ensures.limit (c.if-not-fits.ensures.0 refl) some.1,
    ))
    c.ended_of.ensures
