use Rattle.crl_rounds.proofs.Laws.{mail_in_runs}
use Rattle.crl_rounds.proofs.theorems.round_messages_fit.Goals as goal

pub returns : goal.returns
returns c = mail_in_runs
