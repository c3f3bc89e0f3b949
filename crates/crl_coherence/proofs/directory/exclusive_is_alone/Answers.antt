use Rattle.crl_coherence.proofs.directory.exclusive_is_alone.Goals as goal
use Rattle.crl_coherence.proofs.Statements.{exclusive_alone}

pub returns : goal.returns
returns c = exclusive_alone
