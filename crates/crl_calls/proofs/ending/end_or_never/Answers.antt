use Rattle.std.proofs.Common.{refl, ◌∙◌, subst}
use Rattle.crl_cluster.specs.Clusters.{view_of, shape_of}
use Rattle.crl_calls.specs.declared.faults.EndWhy.TheVariants as end
use Rattle.crl_calls.specs.Tries.{DoesEnd, IsNeverEnded}
use Rattle.crl_calls.proofs.Telling.{moves_none, moves_then, moves_full}
use Rattle.crl_calls.proofs.Ended.{ends_after, ended_after}
use Rattle.crl_calls.proofs.ending.end_or_never.Goals as goal

pub loop-init : goal.loop-init
loop-init g c = (c.requires.here, refl, moves_none (view_of c.args.pass.now))

pub returns-in-Done-clause-told : goal.returns-in-Done-clause-told
returns-in-Done-clause-told g c =
    let s = shape_of c.args.cluster.now in
    let mid = view_of c.loop.pass in
    let new = view_of c.end_once.new.pass in
    ends_after s c.args.node (g.G.Ending.call c.args.guard) (λ n. g.G.Ending.may_end n c.args.guard) (view_of c.args.pass.now) mid new c.loop.invariant.2
    (subst (λ k. DoesEnd s c.args.node (g.G.Ending.call k) (λ n. g.G.Ending.may_end n k) mid new) c.loop.invariant.1 c.in-Done.ensures.told)

pub returns-in-Foreign-clause-told : goal.returns-in-Foreign-clause-told
returns-in-Foreign-clause-told g c =
    let s = shape_of c.args.cluster.now in
    let mid = view_of c.loop.pass in
    let new = view_of c.end_once.new.pass in
    let told = c.in-Foreign.ensures.told in (
      told.0 ∙ c.loop.invariant.1,
      ended_after s c.args.node (λ n. g.G.Ending.may_end n c.args.guard) (view_of c.args.pass.now) mid new end.Foreign c.loop.invariant.2
          (subst (λ k. IsNeverEnded s c.args.node (λ n. g.G.Ending.may_end n k) mid end.Foreign new) c.loop.invariant.1 told.1),
    )

pub returns-in-Full-clause-told : goal.returns-in-Full-clause-told
returns-in-Full-clause-told g c =
    let told = c.in-Full.ensures.told in
    (told.0 ∙ c.loop.invariant.1, moves_full _ _ _ c.loop.invariant.2 told.1)

pub returns-in-Err-clause-told : goal.returns-in-Err-clause-told
returns-in-Err-clause-told g c =
    let told = c.in-Again.ensures.told in
    (told.0 ∙ c.loop.invariant.1, moves_full _ _ _ (moves_then _ _ _ c.loop.invariant.2 told.1) c.in-Err.ensures.told)

pub loop-preserved : goal.loop-preserved
loop-preserved g c =
    let told = c.in-Again.ensures.told in
    (c.move_all.ensures.here, told.0 ∙ c.loop.invariant.1, moves_then _ _ _ (moves_then _ _ _ c.loop.invariant.2 told.1) c.in_default.ensures.told)
