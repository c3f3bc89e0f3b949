use Rattle.crl_deeds.proofs.Cases.Called.{call_deed}
use Rattle.crl_deeds.proofs.deeds.calls_are_deeds.Goals as goal

pub returns : goal.returns
returns c = call_deed
