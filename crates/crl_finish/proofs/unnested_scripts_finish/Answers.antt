use Rattle.crl_finish.proofs.Laws.{finishes}
use Rattle.crl_finish.proofs.unnested_scripts_finish.Goals as goal

pub returns : goal.returns
returns c = finishes
