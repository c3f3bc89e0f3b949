use Rattle.crl_coherence.proofs.sections_open_rightly.Goals as goal
use Rattle.crl_coherence.proofs.Statements.{opens_rightly}

pub returns : goal.returns
returns c = opens_rightly
