use Rattle.crl_coherence.proofs.directory.asks_stand_once.Goals as goal
use Rattle.crl_coherence.proofs.Statements.{asks_once}

pub returns : goal.returns
returns c = asks_once
