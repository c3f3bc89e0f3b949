use Rattle.std.proofs.Common.{rules, ◌≡◌, false, true, refl, subst}
use Rattle.crl_cluster.specs.Clusters.{view_of, shape_of}
use Rattle.crl_calls.specs.Tries.{EndsHeld}
use Rattle.crl_calls.proofs.Telling.{moves_none}
use Rattle.crl_calls.proofs.Ended.{ends_held, undone_ended}
use Rattle.crl_calls.proofs.ending.end_held.Goals as goal

pub returns-then-not-may_end-clause-told : goal.returns-then-not-may_end-clause-told
returns-then-not-may_end-clause-told g c =
    let not : g.G.Ending.may_end (g.N.Member.state c.args.held.now.behind.node) c.args.guard ≡ false = search rules in
    (refl, (moves_none (view_of c.args.pass.now), subst (λ n. g.G.Ending.may_end n c.args.guard ≡ false) c.requires.held.node_is not))

pub returns-then-not-is_free-clause-told : goal.returns-then-not-is_free-clause-told
returns-then-not-is_free-clause-told g c = (refl, moves_none (view_of c.args.pass.now))

pub returns-in-Ok-clause-told : goal.returns-in-Ok-clause-told
returns-in-Ok-clause-told g c =
    let may : g.G.Ending.may_end (g.N.Member.state c.args.held.now.behind.node) c.args.guard ≡ true = search rules in
    ends_held (shape_of c.args.cluster.now) c.args.held.now.number (g.G.Ending.call c.args.guard) (λ n. g.G.Ending.may_end n c.args.guard) (view_of c.args.pass.now) (view_of c.end.new.pass)
    c.requires.held.has (subst (λ n. g.G.Ending.may_end n c.args.guard ≡ true) c.requires.held.node_is may) c.in-Ok.ensures.told

pub returns-in-Err-clause-told : goal.returns-in-Err-clause-told
returns-in-Err-clause-told g c =
    let s = shape_of c.args.cluster.now in
    let i = c.args.held.now.number in
    let old = view_of c.args.pass.now in
    let new = view_of c.end.new.pass in
    let told = c.in-Err.ensures.told in
    undone_ended (EndsHeld s i (g.G.Ending.call c.args.guard) (λ n. g.G.Ending.may_end n c.args.guard) old new) s i (λ n. g.G.Ending.may_end n c.args.guard) c.args.guard c.in-Err.fault.back old new c.in-Err.fault.why c.not_ended.result
    c.not_ended.ensures told.0 told.1
