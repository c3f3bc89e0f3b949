use Rattle.std.proofs.Common.{◌≡◌, ◌+◌, ◌-◌}
use Rattle.crl_protocol.specs.World.{messages_sent, messages_sent_from}
use Rattle.crl_world.specs.Seen.{world_seen}
use Rattle.crl_world.proofs.world.World.messages.Given as goal

abbrev pub invariant-loop-i : goal.invariant-loop-i
invariant-loop-i g l =
    let w = world_seen g.N.Member.state l.self in
    l.sum + messages_sent_from l.i (w.count - l.i) w.nodes ≡ messages_sent w
