use Rattle.crl_history.proofs.Laws.{accounts_legal}
use Rattle.crl_cluster.specs.Clusters.{view_of}
use Rattle.crl_cluster.proofs.Worlds.{run_of}
use Rattle.crl_cluster.proofs.theorems.fronts_are_histories.Goals as goal

pub returns : goal.returns
returns c pass =
    let run = run_of pass.shape (view_of pass).front pass.runs in
    record { run = record { enabled = run; limit = pass.turns.rests.1 }; legal = accounts_legal pass.shape.parts pass.shape.extra (view_of pass).front run }
