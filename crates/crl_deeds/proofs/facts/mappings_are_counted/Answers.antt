use Rattle.crl_deeds.proofs.Counts.Mappings.{mappings_are_counted}
use Rattle.crl_deeds.proofs.facts.mappings_are_counted.Goals as goal

pub returns : goal.returns
returns c = mappings_are_counted
