use Rattle.std.proofs.Common.{◌≡◌}
use Rattle.crl_cluster.specs.Clusters.{view_of, IsOf}
use Rattle.crl_calls.specs.Trails.{Moves}
use Rattle.crl_calls.proofs.asking.call_at_last.Given as goal

abbrev pub invariant-loop : goal.invariant-loop
invariant-loop g l = IsOf l.cluster l.pass × (l.call ≡ l.fn.call) × Moves (view_of l.fn.pass) (view_of l.pass)
