use Rattle.std.proofs.Common.{arith}
use Rattle.crl_world.specs.Choosing.{left_in}
use Rattle.crl_world.specs.Seen.{world_seen}
use Rattle.crl_world.proofs.RowSums.{more_sums}
use Rattle.crl_world.proofs.world.World.counts.Goals as goal

pub loop-i-preserved : goal.loop-i-preserved
loop-i-preserved g c =
    more_sums (left_in c.args.left.now) (world_seen g.N.Member.state c.args.self.now) c.loop-i.i c.loop-i.nexts c.loop-i.inboxes c.loop-i.outboxes
    c.count_at.result c.count_at-in-loop-i.result c.count_at-in-loop-i-2.result c.loop-i.invariant
    c.count_at.ensures c.count_at-in-loop-i.ensures c.count_at-in-loop-i-2.ensures (omega arith) (omega arith) (omega arith)
