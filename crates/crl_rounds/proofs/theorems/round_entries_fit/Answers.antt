use Rattle.crl_rounds.proofs.Laws.{entries_fit}
use Rattle.crl_rounds.proofs.theorems.round_entries_fit.Goals as goal

pub returns : goal.returns
returns c = entries_fit
