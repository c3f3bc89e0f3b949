use Rattle.crl_cluster.specs.Starting.{AreNew}
use Rattle.crl_cluster.proofs.starting.new_nodes.Given as goal

abbrev pub invariant-loop-me : goal.invariant-loop-me
invariant-loop-me g l = AreNew g.N.Member.state g.T.Luggage.stands l.nodes l.capacity l.me l.values.items
