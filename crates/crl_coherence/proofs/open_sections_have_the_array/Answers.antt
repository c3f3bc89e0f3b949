use Rattle.crl_coherence.proofs.open_sections_have_the_array.Goals as goal
use Rattle.crl_coherence.proofs.OpenBytes.{open_bytes}

pub returns : goal.returns
returns c = λ me g k n is_open. open_bytes me g n k is_open
