use Rattle.std.proofs.Common.{◌≡◌, ◌-◌}
use Rattle.crl_protocol.specs.Ends.{least_node, least_node_from, is_absent}
use Rattle.crl_world.specs.Seen.{world_seen}
use Rattle.crl_world.proofs.world.World.least_absent.Given as goal

abbrev pub invariant-loop-m : goal.invariant-loop-m
invariant-loop-m g l =
    let w = world_seen g.N.Member.state l.self in
    least_node_from (is_absent l.round) l.m (w.count - l.m) w.nodes ≡ least_node (is_absent l.round) w
