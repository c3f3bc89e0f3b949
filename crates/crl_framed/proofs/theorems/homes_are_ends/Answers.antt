use Rattle.crl_framed.proofs.Laws.{homes_fit}
use Rattle.crl_framed.proofs.theorems.homes_are_ends.Goals as goal

pub returns : goal.returns
returns c = homes_fit
