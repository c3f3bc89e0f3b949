use Rattle.crl_talk.proofs.Script.{calls_follow}
use Rattle.crl_talk.proofs.theorems.calls_are_the_statements.Goals as goal

pub returns : goal.returns
returns c = calls_follow
