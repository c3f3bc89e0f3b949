use Rattle.std.proofs.Common.{refl}
use Rattle.crl_cluster.proofs.Fresh.{new_more}
use Rattle.crl_cluster.proofs.starting.new_nodes.Goals as goal

pub loop-me-preserved : goal.loop-me-preserved
loop-me-preserved g c =
    new_more g.N.Member.state g.T.Luggage.stands c.args.nodes c.args.capacity c.loop-me.me c.loop-me.values.items _ _ c.loop-me.invariant
    (record { node = c.in_ok-node.ensures; luggage = c.in_ok-luggage.ensures; shape = refl }) c.in_ok-push.ensures.items
