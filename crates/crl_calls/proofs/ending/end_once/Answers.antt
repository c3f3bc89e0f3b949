use Rattle.std.proofs.Common.{refl, ◌∙◌, ap}
use Rattle.crl_turns.specs.Calls.{after_give_back}
use Rattle.crl_cluster.specs.Clusters.{view_of, shape_of}
use Rattle.crl_calls.proofs.Walking.{walk_try}
use Rattle.crl_calls.proofs.Telling.{moves_walk}
use Rattle.crl_calls.proofs.Ended.{ended_around}
use Rattle.crl_calls.proofs.ending.end_once.Goals as goal

pub returns-in-Ok-clause-told : goal.returns-in-Ok-clause-told
returns-in-Ok-clause-told g c =
    let got = c.in-Ok.ensures.told in
    let held = view_of c.hold.new.pass in
    let done = view_of c.end_held-answer.new.pass in
    let new = view_of c.release.new.pass in
    ended_around (shape_of c.args.cluster.now) c.args.node (view_of c.args.pass.now) held done new got.grows.begins got.view
    (c.release.ensures.told ∙ ap (λ i. after_give_back i done) (c.end_held-answer.ensures.held.1.number ∙ got.number))
    (g.G.Ending.call c.args.guard) (λ n. g.G.Ending.may_end n c.args.guard) c.args.guard _ c.end_held-answer.result got.number c.end_held-answer.ensures.told

pub returns-in-Err-clause-told : goal.returns-in-Err-clause-told
returns-in-Err-clause-told g c = (refl, moves_walk _ _ (walk_try c.args.node (view_of c.args.pass.now) (view_of c.hold.new.pass) c.in-Err.ensures.told.1))
