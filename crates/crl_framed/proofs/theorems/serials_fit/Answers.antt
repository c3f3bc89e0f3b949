use Rattle.crl_framed.proofs.Laws.{serials_fit}
use Rattle.crl_framed.proofs.theorems.serials_fit.Goals as goal

pub returns : goal.returns
returns c = serials_fit
