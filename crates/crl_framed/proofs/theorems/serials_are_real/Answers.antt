use Rattle.crl_framed.proofs.Laws.{serials_real}
use Rattle.crl_framed.proofs.theorems.serials_are_real.Goals as goal

pub returns : goal.returns
returns c = serials_real
