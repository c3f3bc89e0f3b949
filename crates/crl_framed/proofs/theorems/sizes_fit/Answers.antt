use Rattle.crl_framed.proofs.Laws.{sizes_fit}
use Rattle.crl_framed.proofs.theorems.sizes_fit.Goals as goal

pub returns : goal.returns
returns c = sizes_fit
