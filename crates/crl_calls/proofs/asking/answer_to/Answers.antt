use Rattle.std.proofs.Common.{rules, ◌≡◌, subst}
use Rattle.crl_model.specs.declared.event.Event.TheVariants as event
use Rattle.crl_protocol.specs.Node.{Wait}
use Rattle.crl_cluster.specs.Clusters.{view_of, shape_of}
use Rattle.crl_calls.specs.Trails.{Does}
use Rattle.crl_calls.proofs.Telling.{answered_at_once, answered_later, full_waiting}
use Rattle.crl_calls.proofs.asking.answer_to.Goals as goal

pub returns-in-Ok-collect_at_last-clause-told : goal.returns-in-Ok-collect_at_last-clause-told
returns-in-Ok-collect_at_last-clause-told g c =
    let s = shape_of c.args.cluster.now in
    let old = view_of c.args.pass.now in
    let mid = view_of c.call_at_last.new.pass in
    let waits : c.in-Ok-Wait.field-0 ≡ Wait = search rules in
    answered_later s c.args.node c.args.call old mid _ (view_of c.collect_at_last.new.pass)
    (subst (λ a. Does s (event.Call c.args.node c.args.call) old a mid) waits c.in-Ok-Wait.ensures.told) c.in-Ok-collect_at_last.ensures.told

pub returns-in-Err-collect_at_last-clause-told : goal.returns-in-Err-collect_at_last-clause-told
returns-in-Err-collect_at_last-clause-told g c =
    full_waiting (shape_of c.args.cluster.now) c.args.node c.args.call (view_of c.args.pass.now) _ (view_of c.call_at_last.new.pass) (view_of c.collect_at_last.new.pass) c.in-Ok-Wait.ensures.told c.in-Err-collect_at_last.ensures.told

pub returns-in-Ok : goal.returns-in-Ok
returns-in-Ok g c = record {
  here = c.in-Ok.ensures.here;
  told = answered_at_once (shape_of c.args.cluster.now) c.args.node c.args.call (view_of c.args.pass.now) c.in-Ok.answer (view_of c.call_at_last.new.pass) c.in-Ok.ensures.told;
}
