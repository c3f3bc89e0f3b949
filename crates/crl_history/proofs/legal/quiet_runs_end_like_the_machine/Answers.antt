use Rattle.crl_history.proofs.Laws.{quiet_ends}
use Rattle.crl_history.proofs.legal.quiet_runs_end_like_the_machine.Goals as goal

pub returns : goal.returns
returns c = quiet_ends
