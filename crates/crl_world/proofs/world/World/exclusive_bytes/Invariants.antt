use Rattle.std.proofs.Common.{◌≡◌, ◌-◌, ℕ, List}
use Rattle.crl_protocol.specs.Ends.{bytes_from}
use Rattle.crl_world.specs.Seen.{world_seen}
use Rattle.crl_world.proofs.world.World.exclusive_bytes.Given as goal

abbrev pub invariant-loop-i : goal.invariant-loop-i
invariant-loop-i g l =
    let w = world_seen g.N.Member.state l.self in
    (bytes : List ℕ) → bytes_from l.name bytes 0 w.count w.nodes ≡ bytes_from l.name bytes l.i (w.count - l.i) w.nodes
