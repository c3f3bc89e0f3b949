use Rattle.crl_talk.proofs.Standing.{calls_stand}
use Rattle.crl_talk.proofs.theorems.calls_stand_once.Goals as goal

pub returns : goal.returns
returns c = calls_stand
