use Rattle.std.proofs.Common.{◌≡◌, ◌-◌, ◌++◌}
use Rattle.crl_protocol.specs.Ends.{regions_from, regions}
use Rattle.crl_world.specs.Seen.{world_seen}
use Rattle.crl_world.proofs.world.World.regions.Given as goal

abbrev pub invariant-loop-i : goal.invariant-loop-i
invariant-loop-i g l =
    let w = world_seen g.N.Member.state l.self in
    l.list.items ++ regions_from l.i (w.count - l.i) w ≡ regions w
