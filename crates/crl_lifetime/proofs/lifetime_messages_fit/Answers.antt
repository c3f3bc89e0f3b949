use Rattle.crl_lifetime.proofs.Laws.{messages_in_runs}
use Rattle.crl_lifetime.proofs.lifetime_messages_fit.Goals as goal

pub returns : goal.returns
returns c = messages_in_runs
