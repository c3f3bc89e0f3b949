use Rattle.crl_history.proofs.Laws.{answers_show}
use Rattle.crl_history.proofs.legal.guards_show_the_array.Goals as goal

pub returns : goal.returns
returns c = answers_show
