use Rattle.crl_coherence.proofs.writers_are_alone.Goals as goal
use Rattle.crl_coherence.proofs.WritersAlone.{writer_alone}

pub returns : goal.returns
returns c = λ me g k n m apart writes. writer_alone me g n m k apart writes
