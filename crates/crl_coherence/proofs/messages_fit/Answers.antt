use Rattle.crl_coherence.proofs.messages_fit.Goals as goal
use Rattle.crl_coherence.proofs.Statements.{messages_are_fit}

pub returns : goal.returns
returns c = messages_are_fit
