use Rattle.crl_cluster.specs.Clusters.{view_of, IsOf}
use Rattle.crl_calls.specs.Trails.{Moves}
use Rattle.crl_calls.proofs.asking.collect_at_last.Given as goal

abbrev pub invariant-loop : goal.invariant-loop
invariant-loop g l = IsOf l.cluster l.pass × Moves (view_of l.fn.pass) (view_of l.pass)
