use Rattle.crl_stuck.proofs.Laws.{waiters}
use Rattle.crl_stuck.proofs.waiters_are_blocked.Goals as goal

pub returns : goal.returns
returns c = waiters
