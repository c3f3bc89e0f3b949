use Rattle.crl_coherence.proofs.directory.marks_have_their_message.Goals as goal
use Rattle.crl_coherence.proofs.Statements.{marks_have_message}

pub returns : goal.returns
returns c = marks_have_message
