use Rattle.crl_sound.proofs.Laws.{numbers_known}
use Rattle.crl_sound.proofs.theorems.nodes_know_their_number.Goals as goal

pub returns : goal.returns
returns c = numbers_known
