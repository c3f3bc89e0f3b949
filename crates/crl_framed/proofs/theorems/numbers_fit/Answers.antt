use Rattle.crl_framed.proofs.Laws.{numbers_fit}
use Rattle.crl_framed.proofs.theorems.numbers_fit.Goals as goal

pub returns : goal.returns
returns c = numbers_fit
