use Rattle.crl_history.proofs.Laws.{entries_legal}
use Rattle.crl_history.proofs.legal.entries_are_legal.Goals as goal

pub returns : goal.returns
returns c = entries_legal
