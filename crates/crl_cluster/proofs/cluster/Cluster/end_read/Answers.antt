use Rattle.std.proofs.Common.{refl}
use Rattle.crl_model.specs.declared.call.Call.TheVariants as call
use Rattle.crl_cluster.specs.Clusters.{view_of, shape_of}
use Rattle.crl_cluster.proofs.Landing.{read_answers}
use Rattle.crl_cluster.proofs.Nodes.{runs_of, node_safe, end_may, end_done, has_still}
use Rattle.crl_cluster.proofs.cluster.Cluster.end_read.Goals as goal

pub append_next-appended-requires-clause-enabled : goal.append_next-appended-requires-clause-enabled
append_next-appended-requires-clause-enabled g c =
    let s = shape_of c.args.self.now in
    let pass = c.args.pass.now in
    end_may s (view_of pass).front (runs_of s pass c.requires.here.shape_is) _ c.requires.held.inside _ c.requires.held.node_is (call.EndRead c.args.guard.name) c.requires.free c.requires.allowed refl

pub end_read-requires-clause-safe : goal.end_read-requires-clause-safe
end_read-requires-clause-safe g c =
    let s = shape_of c.args.self.now in
    let pass = c.args.pass.now in
    node_safe s (view_of pass).front (runs_of s pass c.requires.here.shape_is) _ c.requires.held.inside _ c.requires.held.node_is pass.turns.rests.1

pub returns-in-Ok-clause-held : goal.returns-in-Ok-clause-held
returns-in-Ok-clause-held g c =
    let s = shape_of c.args.self.now in
    let held = c.requires.held in
    let told = c.in-Ok.ensures.told in
    let answers = read_answers (g.N.Member.state c.args.held.now.behind.node) c.args.guard.name c.requires.allowed in
    let did = end_done s (view_of c.args.pass.now) _ _ held.has _ _ _ held.node_is (call.EndRead c.args.guard.name) c.requires.allowed answers told c.end_read.ensures in
    (record { node_is = did.0; shape_is = held.shape_is; inside = held.inside; has = has_still _ _ _ _ told.comes _ held.has }, record { number = refl; luggage = refl })

pub returns-in-Ok-clause-told : goal.returns-in-Ok-clause-told
returns-in-Ok-clause-told g c =
    let held = c.requires.held in
    let answers = read_answers (g.N.Member.state c.args.held.now.behind.node) c.args.guard.name c.requires.allowed in
    (end_done (shape_of c.args.self.now) (view_of c.args.pass.now) _ _ held.has _ _ _ held.node_is (call.EndRead c.args.guard.name) c.requires.allowed answers c.in-Ok.ensures.told c.end_read.ensures).1
