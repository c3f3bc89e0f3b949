use Rattle.crl_world.specs.Seen.{world_seen}
use Rattle.crl_world.specs.Choosing.{left_in}
use Rattle.crl_world.proofs.RowSums.{SumsTo}
use Rattle.crl_world.proofs.world.World.counts.Given as goal

abbrev pub invariant-loop-i : goal.invariant-loop-i
invariant-loop-i g l = SumsTo (left_in l.left) (world_seen g.N.Member.state l.self) l.i l.nexts l.inboxes l.outboxes
