use Rattle.crl_regions.proofs.sections_are_the_tables.Goals as goal
use Rattle.crl_regions.proofs.NodeLaws.{sections_are_tables}

pub returns : goal.returns
returns c = sections_are_tables
