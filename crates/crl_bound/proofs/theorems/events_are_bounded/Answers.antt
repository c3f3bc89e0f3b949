use Rattle.crl_bound.proofs.Laws.{events_few}
use Rattle.crl_bound.proofs.theorems.events_are_bounded.Goals as goal

pub returns : goal.returns
returns c = events_few
