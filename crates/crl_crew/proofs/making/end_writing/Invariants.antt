use Rattle.std.proofs.Common.{◌≡◌}
use Rattle.crl_cluster.specs.Clusters.{view_of, shape_of, IsOf}
use Rattle.crl_crew.specs.Driving.{IsStill}
use Rattle.crl_crew.proofs.making.end_writing.Given as goal

abbrev pub invariant-loop : goal.invariant-loop
invariant-loop g l = IsOf l.nodes l.pass × IsStill g.N.Member.state (shape_of l.nodes) (view_of l.fn.pass) l.fn.held (view_of l.pass) l.held × (l.guard ≡ l.fn.guard)
