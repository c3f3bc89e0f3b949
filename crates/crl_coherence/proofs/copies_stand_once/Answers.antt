use Rattle.crl_coherence.proofs.copies_stand_once.Goals as goal
use Rattle.crl_coherence.proofs.Statements.{copies_once}

pub returns : goal.returns
returns c = copies_once
