use Rattle.crl_deeds.proofs.Counts.OpenReads.{sections_fit}
use Rattle.crl_deeds.proofs.facts.reads_are_counted.Goals as goal

pub returns : goal.returns
returns c = sections_fit
