use Rattle.crl_history.proofs.Laws.{mirrors_in_runs}
use Rattle.crl_history.proofs.every_run_mirrors.Goals as goal

pub returns : goal.returns
returns c = mirrors_in_runs
