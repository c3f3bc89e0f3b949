use Rattle.crl_history.proofs.Laws.{accounts_legal}
use Rattle.crl_history.proofs.legal.accounts_are_histories.Goals as goal

pub returns : goal.returns
returns c = accounts_legal
