use Rattle.crl_finish.proofs.Laws.{comes_to_finish}
use Rattle.crl_finish.proofs.unnested_scripts_end.Goals as goal

pub returns : goal.returns
returns c = comes_to_finish
