use Rattle.crl_coherence.proofs.directory.heads_wait.Goals as goal
use Rattle.crl_coherence.proofs.Statements.{head_waits}

pub returns : goal.returns
returns c = head_waits
