use Rattle.crl_bound.proofs.Laws.{counters_fit}
use Rattle.crl_bound.proofs.theorems.counters_are_bounded.Goals as goal

pub returns : goal.returns
returns c = counters_fit
