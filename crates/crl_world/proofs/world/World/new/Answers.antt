use Rattle.std.proofs.Common.{arith, map}
use Rattle.crl_world.specs.Starting.{AreSomeNodes}
use Rattle.crl_world.proofs.Fresh.{is_started, is_kept}
use Rattle.crl_world.proofs.world.World.new.Goals as goal

pub invariant_of-result : goal.invariant_of-result
invariant_of-result g c =
    let some : AreSomeNodes c.args.nodes = record { some = omega arith; few = omega arith } in
    is_kept (map g.N.Member.state c.in-Ok.members.items) c.args.nodes c.args.capacity some c.in-Ok.ensures

pub returns-in-Ok : goal.returns-in-Ok
returns-in-Ok g c =
    let some : AreSomeNodes c.args.nodes = record { some = omega arith; few = omega arith } in
    is_started (map g.N.Member.state c.in-Ok.members.items) c.args.nodes c.args.capacity some c.in-Ok.ensures
