use Rattle.crl_lifetime.proofs.Laws.{waits_in_runs}
use Rattle.crl_lifetime.proofs.waits_have_one.Goals as goal

pub returns : goal.returns
returns c = waits_in_runs
