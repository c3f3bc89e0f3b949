use Rattle.crl_framed.proofs.Laws.{pieces_placed}
use Rattle.crl_framed.proofs.theorems.pieces_are_cut.Goals as goal

pub returns : goal.returns
returns c = pieces_placed
