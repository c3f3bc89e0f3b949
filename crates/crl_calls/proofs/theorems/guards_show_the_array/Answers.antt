use Rattle.crl_calls.proofs.Shows.{shows_array}
use Rattle.crl_calls.proofs.theorems.guards_show_the_array.Goals as goal

pub returns : goal.returns
returns c s e answer front ends = shows_array s e answer front ends
