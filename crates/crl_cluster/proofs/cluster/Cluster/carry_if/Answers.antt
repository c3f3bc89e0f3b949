use Rattle.std.proofs.Common.{rules, refl, sym, ap, ◌∙◌, ◌≢◌, ◌<◌, subst, length}
use Rattle.crl_turns.specs.declared.view.View.{View}
use Rattle.crl_turns.proofs.Laws.{holds_what_it_has}
use Rattle.crl_cluster.specs.Standing.{heard_at}
use Rattle.crl_cluster.specs.Clusters.{view_of, shape_of}
use Rattle.crl_cluster.proofs.Alone.{carry_heard_by, luggage_on, has_beside_take, held_beside_give}
use Rattle.crl_cluster.proofs.Nodes.{runs_of, addressee_away}
use Rattle.crl_cluster.proofs.Worlds.{run_of}
use Rattle.crl_cluster.proofs.cluster.Cluster.carry_if.Goals as goal

pub hold-requires-clause-node : goal.hold-requires-clause-node
hold-requires-clause-node g c =
    let s = shape_of c.args.self.now in
    let front = (view_of c.args.pass.now).front in
    let n = g.N.Member.state c.args.from.now.behind.node in
    let there : c.args.place < length n.outbox = search rules in
    let away = addressee_away s front (run_of s front (runs_of s c.args.pass.now c.requires.here.shape_is)) c.args.from.now.number c.args.place c.requires.held.inside n c.requires.held.node_is there in
    subst (λ k. k < s.parts) (sym c.addressee-addressee.ensures) away.0

pub release-requires-clause-luggage : goal.release-requires-clause-luggage
release-requires-clause-luggage g c =
    let s = shape_of c.args.self.now in
    let told = c.in-Ok.ensures.told in
    let same = c.carry-answer.ensures.to.1 in
    let held = view_of c.hold.new.pass in
    let done = view_of c.carry-answer.new.pass in
    let heard = carry_heard_by s c.args.from.now.number c.in-Ok.to.number c.args.place held done c.carry-answer.result told.is_held.has c.carry-answer.ensures.told in
    luggage_on g.T.Luggage.stands s c.in-Ok.to.number _ held.front done.front _ _ same.number same.luggage heard (luggage_on g.T.Luggage.stands s c.addressee-addressee.result _ held.front held.front _ _ told.number refl refl told.luggage)

pub returns-in-Ok-answer-clause-held : goal.returns-in-Ok-answer-clause-held
returns-in-Ok-answer-clause-held g c =
    let s = shape_of c.args.self.now in
    let front = (view_of c.args.pass.now).front in
    let n = g.N.Member.state c.args.from.now.behind.node in
    let there : c.args.place < length n.outbox = search rules in
    let away = addressee_away s front (run_of s front (runs_of s c.args.pass.now c.requires.here.shape_is)) c.args.from.now.number c.args.place c.requires.held.inside n c.requires.held.node_is there in
    let from = c.carry-answer.ensures.from in
    let to = c.carry-answer.ensures.to in
    let apart : c.carry-answer.new.from.number ≢ c.carry-answer.new.to.number = λ same. away.1 (sym c.addressee-addressee.ensures ∙ sym c.in-Ok.ensures.told.number ∙ sym to.1.number ∙ sym same ∙ from.1.number) in
    (held_beside_give g.N.Member.state s c.carry-answer.new.to.number (view_of c.carry-answer.new.pass) _ c.carry-answer.new.from apart c.release.ensures.told from.0, from.1)

pub returns-in-Err-answer-clause-held : goal.returns-in-Err-answer-clause-held
returns-in-Err-answer-clause-held g c =
    let s = shape_of c.args.self.now in
    let front = (view_of c.args.pass.now).front in
    let n = g.N.Member.state c.args.from.now.behind.node in
    let there : c.args.place < length n.outbox = search rules in
    let away = addressee_away s front (run_of s front (runs_of s c.args.pass.now c.requires.here.shape_is)) c.args.from.now.number c.args.place c.requires.held.inside n c.requires.held.node_is there in
    let from = c.carry-answer.ensures.from in
    let to = c.carry-answer.ensures.to in
    let apart : c.carry-answer.new.from.number ≢ c.carry-answer.new.to.number = λ same. away.1 (sym c.addressee-addressee.ensures ∙ sym c.in-Ok.ensures.told.number ∙ sym to.1.number ∙ sym same ∙ from.1.number) in
    (held_beside_give g.N.Member.state s c.carry-answer.new.to.number (view_of c.carry-answer.new.pass) _ c.carry-answer.new.from apart c.release.ensures.told from.0, from.1)

pub returns-in-Ok-answer-clause-heard : goal.returns-in-Ok-answer-clause-heard
returns-in-Ok-answer-clause-heard g c =
    let s = shape_of c.args.self.now in
    let i = c.args.from.now.number in
    let old = view_of c.args.pass.now in
    let held = view_of c.hold.new.pass in
    let done = view_of c.carry-answer.new.pass in
    let n = g.N.Member.state c.args.from.now.behind.node in
    let there : c.args.place < length n.outbox = search rules in
    let away = addressee_away s old.front (run_of s old.front (runs_of s c.args.pass.now c.requires.here.shape_is)) i c.args.place c.requires.held.inside n c.requires.held.node_is there in
    let apart : i ≢ c.addressee-addressee.result = λ same. away.1 (sym c.addressee-addressee.ensures ∙ sym same) in
    let told = c.in-Ok.ensures.told in
    ap (λ (v : View). heard_at s i v.front) c.release.ensures.told
    ∙ carry_heard_by s i i c.args.place held done c.carry-answer.result (has_beside_take i c.addressee-addressee.result old held apart told.view c.requires.held.has) c.carry-answer.ensures.told
    ∙ told.grows.heard i (holds_what_it_has i old c.requires.held.has)
