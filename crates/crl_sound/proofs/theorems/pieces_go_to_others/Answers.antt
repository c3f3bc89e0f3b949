use Rattle.crl_sound.proofs.Laws.{pieces_leave}
use Rattle.crl_sound.proofs.theorems.pieces_go_to_others.Goals as goal

pub returns : goal.returns
returns c = pieces_leave
