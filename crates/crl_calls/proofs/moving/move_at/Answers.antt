use Rattle.std.specs.declared.result.Result.TheVariants.{Ok, Err}
use Rattle.crl_cluster.specs.Clusters.{view_of, shape_of}
use Rattle.crl_calls.proofs.Telling.{moves_on}
use Rattle.crl_calls.proofs.Tried.{handled_told, carried_told}
use Rattle.crl_calls.proofs.moving.move_at.Goals as goal

pub returns-in-Err-clause-told : goal.returns-in-Err-clause-told
returns-in-Err-clause-told g c =
    handled_told {E = Unit {0}} (shape_of c.args.cluster.now) c.args.node 0 (view_of c.args.pass.now) (view_of c.try_handle.new.pass) c.try_handle.result (Err tt) c.try_handle.ensures.told c.in-Err.ensures

pub returns-in-Ok-clause-told : goal.returns-in-Ok-clause-told
returns-in-Ok-clause-told g c =
    let s = shape_of c.args.cluster.now in
    let old = view_of c.args.pass.now in
    let mid = view_of c.try_handle.new.pass in
    let new = view_of c.try_carry.new.pass in
    moves_on old mid new c.full_if-in-Ok.result (handled_told {E = Unit {0}} s c.args.node 0 old mid c.try_handle.result (Ok tt) c.try_handle.ensures.told tt)
    (carried_told s c.args.node 0 mid new c.try_carry.result c.full_if-in-Ok.result c.try_carry.ensures.told c.full_if-in-Ok.ensures)
