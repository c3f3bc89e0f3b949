use Rattle.crl_talk.proofs.Heard.{sections_are_guards}
use Rattle.crl_talk.proofs.theorems.sections_are_the_guards.Goals as goal

pub returns : goal.returns
returns c = sections_are_guards
