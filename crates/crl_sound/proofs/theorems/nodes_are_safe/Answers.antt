use Rattle.crl_sound.proofs.Laws.{nodes_safe}
use Rattle.crl_sound.proofs.theorems.nodes_are_safe.Goals as goal

pub returns : goal.returns
returns c = nodes_safe
