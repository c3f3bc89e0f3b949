use Rattle.crl_deeds.proofs.Cases.Refused.{refused_for}
use Rattle.crl_deeds.proofs.deeds.refusals_have_causes.Goals as goal

pub returns : goal.returns
returns c = refused_for
