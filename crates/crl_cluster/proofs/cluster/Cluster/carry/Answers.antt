use Rattle.std.proofs.Common.{refl, ◌∙◌, ap}
use Rattle.crl_protocol.specs.Node.{Node}
use Rattle.crl_protocol.specs.Places.{take_out}
use Rattle.crl_member.specs.Members.{addressee_of}
use Rattle.crl_cluster.specs.Clusters.{view_of, shape_of}
use Rattle.crl_cluster.proofs.Nodes.{runs_of, node_safe, carry_may, carry_done, has_still, piece_framed}
use Rattle.crl_cluster.proofs.Worlds.{run_of}
use Rattle.crl_cluster.proofs.cluster.Cluster.carry.Goals as goal

pub ready_carry-requires-clause-in_table : goal.ready_carry-requires-clause-in_table
ready_carry-requires-clause-in_table g c =
    let s = shape_of c.args.self.now in
    let pass = c.args.pass.now in
    let front = (view_of pass).front in
    piece_framed s front (run_of s front (runs_of s pass c.requires.here.shape_is)) _ c.args.place c.requires.from.inside _ c.requires.from.node_is c.requires.there c.args.self.now.some.1 pass.turns.rests.1

pub append_next-requires-clause-enabled : goal.append_next-requires-clause-enabled
append_next-requires-clause-enabled g c =
    let s = shape_of c.args.self.now in
    let front = (view_of c.args.pass.now).front in
    carry_may s front (run_of s front (runs_of s c.args.pass.now c.requires.here.shape_is)) _ c.args.place c.requires.from.inside _ c.requires.from.node_is c.requires.there

pub make_carry-requires-clause-safe : goal.make_carry-requires-clause-safe
make_carry-requires-clause-safe g c =
    let s = shape_of c.args.self.now in
    let pass = c.args.pass.now in
    node_safe s (view_of pass).front (runs_of s pass c.requires.here.shape_is) _ c.requires.from.inside _ (c.ready_carry.ensures.state.0 ∙ c.requires.from.node_is) pass.turns.rests.1

pub returns-in-Ok-append_next-clause-from : goal.returns-in-Ok-append_next-clause-from
returns-in-Ok-append_next-clause-from g c =
    let s = shape_of c.args.self.now in
    let from = c.requires.from in
    let to = c.requires.to in
    let told = c.in-Ok-append_next.ensures.told in
    let same = c.ready_carry.ensures.state.0 in
    let did = carry_done s (view_of c.args.pass.now) _ _ c.args.to.now.number c.args.place _ _ _ _ _ from.has to.has from.inside (same ∙ from.node_is) (c.ready_carry.ensures.state.1 ∙ to.node_is) (rw same c.requires.there)
    (ap (λ (n : Node). addressee_of (take_out c.args.place n.outbox)) same ∙ c.requires.addressee) told c.make_carry.ensures in
    (record { node_is = did.0; shape_is = from.shape_is; inside = from.inside; has = has_still _ _ _ _ told.comes _ from.has }, record { number = refl; luggage = refl })

pub returns-in-Ok-append_next-clause-to : goal.returns-in-Ok-append_next-clause-to
returns-in-Ok-append_next-clause-to g c =
    let s = shape_of c.args.self.now in
    let from = c.requires.from in
    let to = c.requires.to in
    let told = c.in-Ok-append_next.ensures.told in
    let same = c.ready_carry.ensures.state.0 in
    let did = carry_done s (view_of c.args.pass.now) _ _ c.args.to.now.number c.args.place _ _ _ _ _ from.has to.has from.inside (same ∙ from.node_is) (c.ready_carry.ensures.state.1 ∙ to.node_is) (rw same c.requires.there)
    (ap (λ (n : Node). addressee_of (take_out c.args.place n.outbox)) same ∙ c.requires.addressee) told c.make_carry.ensures in
    (record { node_is = did.1; shape_is = to.shape_is; inside = to.inside; has = has_still _ _ _ _ told.comes _ to.has }, record { number = refl; luggage = refl })
