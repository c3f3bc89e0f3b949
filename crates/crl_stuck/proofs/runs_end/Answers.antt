use Rattle.crl_stuck.proofs.Laws.{run_ends, one_end}
use Rattle.crl_stuck.proofs.runs_end.Goals as goal

pub returns : goal.returns
returns c = record { ends = run_ends; one = one_end }
