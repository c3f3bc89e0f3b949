use Rattle.crl_talk.proofs.Ends.{ends_show_guards}
use Rattle.crl_talk.proofs.theorems.ends_show_their_guards.Goals as goal

pub returns : goal.returns
returns c = ends_show_guards
