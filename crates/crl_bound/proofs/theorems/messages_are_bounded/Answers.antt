use Rattle.crl_bound.proofs.Laws.{messages_bounded}
use Rattle.crl_bound.proofs.theorems.messages_are_bounded.Goals as goal

pub returns : goal.returns
returns c = messages_bounded
