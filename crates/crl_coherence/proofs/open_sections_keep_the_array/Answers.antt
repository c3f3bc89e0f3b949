use Rattle.crl_coherence.proofs.open_sections_keep_the_array.Goals as goal
use Rattle.crl_coherence.proofs.Keeps.{array_left}

pub returns : goal.returns
returns c = λ me g h k happens n is_open. array_left me g h n k happens is_open
