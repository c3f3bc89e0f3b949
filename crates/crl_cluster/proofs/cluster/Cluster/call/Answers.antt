use Rattle.std.proofs.Common.{refl, ◌∙◌}
use Rattle.crl_cluster.specs.Clusters.{view_of, shape_of}
use Rattle.crl_cluster.proofs.Nodes.{runs_of, node_safe, call_may, call_done, has_still}
use Rattle.crl_cluster.proofs.cluster.Cluster.call.Goals as goal

pub ready_call-requires-clause-safe : goal.ready_call-requires-clause-safe
ready_call-requires-clause-safe g c =
    let s = shape_of c.args.self.now in
    let pass = c.args.pass.now in
    node_safe s (view_of pass).front (runs_of s pass c.requires.here.shape_is) _ c.requires.held.inside _ c.requires.held.node_is pass.turns.rests.1

pub append_next-appended-requires-clause-enabled : goal.append_next-appended-requires-clause-enabled
append_next-appended-requires-clause-enabled g c =
    let s = shape_of c.args.self.now in
    let pass = c.args.pass.now in
    call_may s (view_of pass).front (runs_of s pass c.requires.here.shape_is) _ c.requires.held.inside _ c.requires.held.node_is c.args.call c.requires.free c.requires.may.enabled

pub make_call-requires-clause-safe : goal.make_call-requires-clause-safe
make_call-requires-clause-safe g c =
    let s = shape_of c.args.self.now in
    let pass = c.args.pass.now in
    node_safe s (view_of pass).front (runs_of s pass c.requires.here.shape_is) _ c.requires.held.inside _ (c.ready_call.ensures.state ∙ c.requires.held.node_is) pass.turns.rests.1

pub returns-in-Ok-appended-clause-held : goal.returns-in-Ok-appended-clause-held
returns-in-Ok-appended-clause-held g c =
    let s = shape_of c.args.self.now in
    let held = c.requires.held in
    let told = c.in-Ok-appended.ensures.told in
    let did = call_done s (view_of c.args.pass.now) _ _ held.has _ _ _ (c.ready_call.ensures.state ∙ held.node_is) c.args.call _ told c.make_call.ensures in
    (record { node_is = did.0; shape_is = held.shape_is; inside = held.inside; has = has_still _ _ _ _ told.comes _ held.has }, record { number = refl; luggage = refl })

pub returns-in-Ok-appended-clause-told : goal.returns-in-Ok-appended-clause-told
returns-in-Ok-appended-clause-told g c =
    let held = c.requires.held in
    (call_done (shape_of c.args.self.now) (view_of c.args.pass.now) _ _ held.has _ _ _ (c.ready_call.ensures.state ∙ held.node_is) c.args.call _ c.in-Ok-appended.ensures.told c.make_call.ensures).1
