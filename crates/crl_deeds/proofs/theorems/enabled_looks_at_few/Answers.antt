use Rattle.crl_deeds.proofs.Runs.Enabled.{enabled_by_few}
use Rattle.crl_deeds.proofs.theorems.enabled_looks_at_few.Goals as goal

pub returns : goal.returns
returns c = enabled_by_few
