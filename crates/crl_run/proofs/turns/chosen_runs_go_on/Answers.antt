use Rattle.crl_run.proofs.Lasting.{chosen_on}
use Rattle.crl_run.proofs.turns.chosen_runs_go_on.Goals as goal

pub returns : goal.returns
returns c = chosen_on
