use Rattle.crl_gen.proofs.Unnested.{made_finishes}
use Rattle.crl_gen.proofs.finishing.made_scripts_finish.Goals as goal

pub returns : goal.returns
returns c = made_finishes
