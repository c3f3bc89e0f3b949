use Rattle.crl_coherence.proofs.directory.bytes_are_the_array.Goals as goal
use Rattle.crl_coherence.proofs.Statements.{bytes_of_array}

pub returns : goal.returns
returns c = bytes_of_array
