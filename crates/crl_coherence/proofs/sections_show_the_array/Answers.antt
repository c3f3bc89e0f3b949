use Rattle.crl_coherence.proofs.sections_show_the_array.Goals as goal
use Rattle.crl_coherence.proofs.Statements.{shows_the_array}

pub returns : goal.returns
returns c = shows_the_array
