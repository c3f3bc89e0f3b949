use Rattle.crl_cluster.specs.Clusters.{view_of, shape_of, IsOf}
use Rattle.crl_cluster.proofs.Learning.{Learns}
use Rattle.crl_cluster.proofs.cluster.Cluster.append_next.Given as goal

abbrev pub invariant-loop-at : goal.invariant-loop-at
invariant-loop-at g l = record {
  here : IsOf l.self l.pass;
  learns : Learns (shape_of l.self) (view_of l.initial.pass) (view_of l.pass);
}

abbrev pub decreases-loop-at : goal.decreases-loop-at
decreases-loop-at g l = l.left
