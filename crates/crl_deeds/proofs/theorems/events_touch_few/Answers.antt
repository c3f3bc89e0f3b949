use Rattle.crl_deeds.proofs.Runs.Touched.{touched}
use Rattle.crl_deeds.proofs.theorems.events_touch_few.Goals as goal

pub returns : goal.returns
returns c = touched
