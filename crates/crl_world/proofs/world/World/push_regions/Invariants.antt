use Rattle.std.proofs.Common.{◌≡◌, ◌+◌, ◌++◌, drop}
use Rattle.crl_protocol.specs.Ends.{regions_of}
use Rattle.crl_world.specs.Seen.{world_seen}
use Rattle.crl_world.proofs.world.World.push_regions.Given as goal

abbrev pub invariant-loop-serial : goal.invariant-loop-serial
invariant-loop-serial g l =
    let w = world_seen g.N.Member.state l.self in
    l.regions.items ++ regions_of l.i (l.serial + 1) (drop l.serial (w.nodes l.i).homes) w ≡ l.initial.regions.items ++ regions_of l.i 1 (w.nodes l.i).homes w
