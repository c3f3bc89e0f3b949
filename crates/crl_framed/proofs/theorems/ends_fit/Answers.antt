use Rattle.crl_framed.proofs.Laws.{ends_fit}
use Rattle.crl_framed.proofs.theorems.ends_fit.Goals as goal

pub returns : goal.returns
returns c = ends_fit
