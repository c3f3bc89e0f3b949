use Rattle.std.proofs.Common.{rules, ◌<◌, refl, ap, ◌∙◌}
use Rattle.crl_turns.specs.declared.view.View.{View}
use Rattle.crl_cluster.specs.Clusters.{view_of, node_count}
use Rattle.crl_calls.proofs.Started.{new_caller, new_more}
use Rattle.crl_calls.proofs.starting.new_callers.Goals as goal

pub loop-node-preserved : goal.loop-node-preserved
loop-node-preserved g c =
    let cluster = c.args.cluster.now in
    let inv = c.loop-node.invariant in
    let told = c.split.ensures.told in
    let inside : c.loop-node.node < node_count cluster = search rules in (
      c.split.ensures.here.0,
      ap (λ (v : View). v.front) told.0 ∙ inv.1,
      new_more cluster c.loop-node.node c.loop-node.callers.items _ (record { node = c.loop-node.node; pass = c.split.result; spent = _ }) inv.2
          (new_caller cluster _ (view_of c.loop-node.pass) c.split.ensures.here.1 inside refl told.1 inv.1) c.in_ok-push.ensures.items,
    )
