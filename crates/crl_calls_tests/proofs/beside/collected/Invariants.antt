use Rattle.crl_cluster.specs.Clusters.{IsOf}
use Rattle.crl_calls_tests.proofs.beside.collected.Given as goal

abbrev pub invariant-loop : goal.invariant-loop
invariant-loop g l = IsOf l.nodes l.pass
