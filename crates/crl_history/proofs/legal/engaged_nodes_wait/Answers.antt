use Rattle.crl_history.proofs.Laws.{engaged_in_runs}
use Rattle.crl_history.proofs.legal.engaged_nodes_wait.Goals as goal

pub returns : goal.returns
returns c = engaged_in_runs
