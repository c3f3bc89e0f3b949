use Rattle.crl_cluster.specs.Clusters.{IsOf}
use Rattle.crl_cluster_tests.proofs.making.create.Given as goal

abbrev pub invariant-loop : goal.invariant-loop
invariant-loop l = IsOf l.nodes l.pass
