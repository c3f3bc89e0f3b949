use Rattle.std.proofs.Common.{refl, ◌∙◌}
use Rattle.crl_cluster.specs.Clusters.{view_of, shape_of}
use Rattle.crl_cluster.proofs.Nodes.{runs_of, node_safe, collect_may, collect_done, has_still}
use Rattle.crl_cluster.proofs.cluster.Cluster.collect.Goals as goal

pub append_next-requires-clause-enabled : goal.append_next-requires-clause-enabled
append_next-requires-clause-enabled g c =
    let s = shape_of c.args.self.now in
    let pass = c.args.pass.now in
    collect_may s (view_of pass).front (runs_of s pass c.requires.here.shape_is) _ c.requires.held.inside _ c.requires.held.node_is c.requires.ready

pub make_collect-requires-clause-safe : goal.make_collect-requires-clause-safe
make_collect-requires-clause-safe g c =
    let s = shape_of c.args.self.now in
    let pass = c.args.pass.now in
    node_safe s (view_of pass).front (runs_of s pass c.requires.here.shape_is) _ c.requires.held.inside _ (c.ready_collect.ensures.state ∙ c.requires.held.node_is) pass.turns.rests.1

pub returns-in-Ok-append_next-clause-held : goal.returns-in-Ok-append_next-clause-held
returns-in-Ok-append_next-clause-held g c =
    let s = shape_of c.args.self.now in
    let held = c.requires.held in
    let told = c.in-Ok-append_next.ensures.told in
    let did = collect_done s (view_of c.args.pass.now) _ _ held.has _ _ _ (c.ready_collect.ensures.state ∙ held.node_is) _ told c.make_collect.ensures in
    (record { node_is = did.0; shape_is = held.shape_is; inside = held.inside; has = has_still _ _ _ _ told.comes _ held.has }, record { number = refl; luggage = refl })

pub returns-in-Ok-append_next-clause-told : goal.returns-in-Ok-append_next-clause-told
returns-in-Ok-append_next-clause-told g c =
    let held = c.requires.held in
    (collect_done (shape_of c.args.self.now) (view_of c.args.pass.now) _ _ held.has _ _ _ (c.ready_collect.ensures.state ∙ held.node_is) _ c.in-Ok-append_next.ensures.told c.make_collect.ensures).1
