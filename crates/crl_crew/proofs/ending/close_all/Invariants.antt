use Rattle.std.proofs.Common.{◌≡◌}
use Rattle.crl_cluster.specs.Clusters.{shape_of}
use Rattle.crl_crew.specs.Working.{IsIdle}
use Rattle.crl_crew.proofs.ending.close_all.Given as goal

abbrev pub invariant-loop : goal.invariant-loop
invariant-loop g l = IsIdle l.cluster l.pass × (shape_of l.cluster ≡ shape_of l.fn.cluster)
