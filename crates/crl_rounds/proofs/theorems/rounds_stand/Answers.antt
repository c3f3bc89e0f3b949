use Rattle.crl_rounds.proofs.Laws.{rounds_in_runs}
use Rattle.crl_rounds.proofs.theorems.rounds_stand.Goals as goal

pub returns : goal.returns
returns c = rounds_in_runs
