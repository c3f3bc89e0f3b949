use Rattle.crl_sound.proofs.Laws.{pieces_safe}
use Rattle.crl_sound.proofs.theorems.pieces_are_safe.Goals as goal

pub returns : goal.returns
returns c = pieces_safe
