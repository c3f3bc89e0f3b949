-- What is said of the history that a pass knows.
use Rattle.crl_machine.specs.SingleMachine.{start, IsHistory}
use Rattle.crl_protocol.specs.World.{IsRun, account}
use Rattle.crl_cluster.specs.declared.cluster.Pass.{Pass}
use Rattle.crl_cluster.specs.Clusters.{view_of}

pub record FrontIsHistory (pass : Pass) : Type 0 where
  pub run : IsRun pass.shape.parts pass.shape.extra (view_of pass).front
  pub legal : IsHistory (start pass.shape.parts) (account pass.shape.parts pass.shape.extra (view_of pass).front)
