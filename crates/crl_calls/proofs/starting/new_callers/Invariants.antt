use Rattle.std.proofs.Common.{◌≡◌, []}
use Rattle.crl_cluster.specs.Clusters.{view_of, IsOf}
use Rattle.crl_calls.specs.Callers.{AreNewCallers}
use Rattle.crl_calls.proofs.starting.new_callers.Given as goal

abbrev pub invariant-loop-node : goal.invariant-loop-node
invariant-loop-node g l = IsOf l.cluster l.pass × ((view_of l.pass).front ≡ []) × AreNewCallers l.cluster l.node l.callers.items
