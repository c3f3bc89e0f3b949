use Rattle.crl_coherence.proofs.directory.versions_stand_once.Goals as goal
use Rattle.crl_coherence.proofs.Statements.{versions_once}

pub returns : goal.returns
returns c = versions_once
