use Rattle.std.proofs.Common.{refl, sym, ◌∙◌, subst}
use Rattle.std.specs.Prelude.{MatchResult}
use Rattle.crl_model.specs.declared.event.Event.TheVariants as event
use Rattle.crl_cluster.specs.Clusters.{view_of, shape_of}
use Rattle.crl_cluster.specs.Trying.{HasNoCall}
use Rattle.crl_calls.specs.Trails.{Moves, Does}
use Rattle.crl_calls.specs.Tries.{IsNever}
use Rattle.crl_calls.proofs.Telling.{moves_none, moves_then, moves_full, does_after, full_unmade}
use Rattle.crl_calls.proofs.Tried.{tried_does, untried}
use Rattle.crl_calls.proofs.asking.call_at_last.Goals as goal

pub loop-init : goal.loop-init
loop-init g c = (c.requires.here, refl, moves_none (view_of c.args.pass.now))

pub returns-in-Ok-clause-told : goal.returns-in-Ok-clause-told
returns-in-Ok-clause-told g c =
    let s = shape_of c.args.cluster.now in
    let node = c.args.node in
    let mid = view_of c.loop.pass in
    let new = view_of c.try_call.new.pass in
    does_after s (event.Call node c.args.call) (view_of c.args.pass.now) mid c.in-Ok.answer new c.loop.invariant.2
    (subst (λ k. Does s (event.Call node k) mid c.in-Ok.answer new) c.loop.invariant.1 (tried_does s node (event.Call node c.loop.call) c.in-Ok.answer mid new c.in-Ok.ensures.told))

pub returns-in-Err-never_if-clause-told : goal.returns-in-Err-never_if-clause-told
returns-in-Err-never_if-clause-told g c =
    let node = c.args.node in
    let old = view_of c.args.pass.now in
    let new = view_of c.try_call.new.pass in
    let told = untried (shape_of c.args.cluster.now) node c.args.call (HasNoCall node c.loop.call) old (view_of c.loop.pass) new c.in-Err.refused.why c.loop.invariant.2 c.in-Err.ensures.told.1 in
    subst (λ r. MatchResult r (λ _. Moves old new) (λ never. IsNever node c.args.call old never new)) (sym c.in-Err-never_if.ensures) told

pub returns-in-Err-move_all-clause-told : goal.returns-in-Err-move_all-clause-told
returns-in-Err-move_all-clause-told g c =
    let node = c.args.node in
    let old = view_of c.args.pass.now in
    let mid = view_of c.try_call.new.pass in
    let new = view_of c.move_all.new.pass in
    let told = untried (shape_of c.args.cluster.now) node c.args.call (HasNoCall node c.loop.call) old (view_of c.loop.pass) mid c.in-Err.refused.why c.loop.invariant.2 c.in-Err.ensures.told.1 in
    let moved = subst (λ r. MatchResult r (λ _. Moves old mid) (λ never. IsNever node c.args.call old never mid)) (sym c.in_default.ensures) told in
    full_unmade node c.args.call old new (moves_full old mid new moved c.in-Err-move_all.ensures.told)

pub loop-preserved : goal.loop-preserved
loop-preserved g c =
    let node = c.args.node in
    let old = view_of c.args.pass.now in
    let mid = view_of c.try_call.new.pass in
    let told = untried (shape_of c.args.cluster.now) node c.args.call (HasNoCall node c.loop.call) old (view_of c.loop.pass) mid c.in-Err.refused.why c.loop.invariant.2 c.in-Err.ensures.told.1 in
    let moved = subst (λ r. MatchResult r (λ _. Moves old mid) (λ never. IsNever node c.args.call old never mid)) (sym c.in_default.ensures) told in
    (c.move_all.ensures.here, c.in-Err.ensures.told.0 ∙ c.loop.invariant.1, moves_then _ _ _ moved c.in_default-move_all.ensures.told)
