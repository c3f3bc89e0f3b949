use Rattle.crl_cluster.specs.Clusters.{view_of, IsOf}
use Rattle.crl_calls.specs.Trails.{Moves}
use Rattle.crl_calls.proofs.moving.move_all.Given as goal

abbrev pub invariant-loop-node : goal.invariant-loop-node
invariant-loop-node g l = IsOf l.cluster l.pass × Moves (view_of l.fn.pass) (view_of l.pass)
