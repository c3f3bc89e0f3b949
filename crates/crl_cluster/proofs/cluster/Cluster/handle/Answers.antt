use Rattle.std.proofs.Common.{refl, ◌∙◌}
use Rattle.crl_cluster.specs.Clusters.{view_of, shape_of}
use Rattle.crl_cluster.proofs.Nodes.{runs_of, node_safe, piece_safe, handle_may, handle_done, has_still}
use Rattle.crl_cluster.proofs.cluster.Cluster.handle.Goals as goal

pub ready_handle-requires-clause-safe : goal.ready_handle-requires-clause-safe
ready_handle-requires-clause-safe g c =
    let s = shape_of c.args.self.now in
    let pass = c.args.pass.now in
    node_safe s (view_of pass).front (runs_of s pass c.requires.here.shape_is) _ c.requires.held.inside _ c.requires.held.node_is pass.turns.rests.1

pub ready_handle-requires-clause-piece : goal.ready_handle-requires-clause-piece
ready_handle-requires-clause-piece g c =
    let s = shape_of c.args.self.now in
    let pass = c.args.pass.now in
    piece_safe s (view_of pass).front (runs_of s pass c.requires.here.shape_is) _ c.requires.held.inside _ c.requires.held.node_is c.args.place

pub append_next-requires-clause-enabled : goal.append_next-requires-clause-enabled
append_next-requires-clause-enabled g c =
    let s = shape_of c.args.self.now in
    let pass = c.args.pass.now in
    handle_may s (view_of pass).front (runs_of s pass c.requires.here.shape_is) _ c.requires.held.inside _ c.requires.held.node_is c.args.place c.requires.there

pub make_handle-requires-clause-safe : goal.make_handle-requires-clause-safe
make_handle-requires-clause-safe g c =
    let s = shape_of c.args.self.now in
    let pass = c.args.pass.now in
    node_safe s (view_of pass).front (runs_of s pass c.requires.here.shape_is) _ c.requires.held.inside _ (c.ready_handle.ensures.state ∙ c.requires.held.node_is) pass.turns.rests.1

pub make_handle-requires-clause-piece : goal.make_handle-requires-clause-piece
make_handle-requires-clause-piece g c =
    let s = shape_of c.args.self.now in
    let pass = c.args.pass.now in
    piece_safe s (view_of pass).front (runs_of s pass c.requires.here.shape_is) _ c.requires.held.inside _ (c.ready_handle.ensures.state ∙ c.requires.held.node_is) c.args.place

pub returns-in-Ok-append_next-clause-held : goal.returns-in-Ok-append_next-clause-held
returns-in-Ok-append_next-clause-held g c =
    let s = shape_of c.args.self.now in
    let held = c.requires.held in
    let told = c.in-Ok-append_next.ensures.told in
    let did = handle_done s (view_of c.args.pass.now) _ _ held.has _ _ _ (c.ready_handle.ensures.state ∙ held.node_is) c.args.place (rw c.ready_handle.ensures.state c.requires.there) told c.make_handle.ensures in
    (record { node_is = did; shape_is = held.shape_is; inside = held.inside; has = has_still _ _ _ _ told.comes _ held.has }, record { number = refl; luggage = refl })
