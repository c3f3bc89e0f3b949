use Rattle.std.proofs.Common.{refl}
use Rattle.std.specs.declared.result.Result.TheVariants.{Err}
use Rattle.crl_model.specs.declared.event.Event.TheVariants as event
use Rattle.crl_cluster.specs.Clusters.{view_of, shape_of}
use Rattle.crl_cluster.specs.Trying.{HasNoAnswer}
use Rattle.crl_calls.proofs.Telling.{moves_none, moves_then, moves_full, does_after}
use Rattle.crl_calls.proofs.Tried.{tried_does, untaken, untaken_at_the_end}
use Rattle.crl_calls.proofs.asking.collect_at_last.Goals as goal

pub loop-init : goal.loop-init
loop-init g c = (c.requires.here, moves_none (view_of c.args.pass.now))

pub returns-in-Ok-clause-told : goal.returns-in-Ok-clause-told
returns-in-Ok-clause-told g c =
    let s = shape_of c.args.cluster.now in
    let e = event.Collect c.args.node in
    let mid = view_of c.loop.pass in
    let new = view_of c.try_collect.new.pass in
    does_after s e (view_of c.args.pass.now) mid c.in-Ok.answer new c.loop.invariant.1 (tried_does s c.args.node e c.in-Ok.answer mid new c.in-Ok.ensures.told)

pub returns-in-Err-full_if-clause-told : goal.returns-in-Err-full_if-clause-told
returns-in-Err-full_if-clause-told g c =
    untaken_at_the_end (shape_of c.args.cluster.now) c.args.node (HasNoAnswer c.args.node) (view_of c.args.pass.now) (view_of c.loop.pass) (view_of c.try_collect.new.pass) c.in-Err.why (Err c.in-Err.why) c.loop.invariant.1
    c.in-Err.ensures.told refl c.in-Err-full_if.ensures

pub returns-in-Err-move_all-clause-told : goal.returns-in-Err-move_all-clause-told
returns-in-Err-move_all-clause-told g c =
    let moved = untaken (shape_of c.args.cluster.now) c.args.node (HasNoAnswer c.args.node) (view_of c.args.pass.now) (view_of c.loop.pass) (view_of c.try_collect.new.pass) c.in-Err.why c.loop.invariant.1 c.in-Err.ensures.told in
    moves_full _ _ _ moved c.in-Err-move_all.ensures.told

pub loop-preserved : goal.loop-preserved
loop-preserved g c =
    let moved = untaken (shape_of c.args.cluster.now) c.args.node (HasNoAnswer c.args.node) (view_of c.args.pass.now) (view_of c.loop.pass) (view_of c.try_collect.new.pass) c.in-Err.why c.loop.invariant.1 c.in-Err.ensures.told in
    (c.move_all.ensures.here, moves_then _ _ _ moved c.in_default-move_all.ensures.told)
