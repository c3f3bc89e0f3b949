use Rattle.crl_coherence.proofs.who_waits_is_blocked.Goals as goal
use Rattle.crl_coherence.proofs.Statements.{waiting_is_blocked}

pub returns : goal.returns
returns c = waiting_is_blocked
