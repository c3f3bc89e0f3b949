use Rattle.crl_regions.proofs.write_sections_are_alone.Goals as goal
use Rattle.crl_regions.proofs.NodeLaws.{write_alone}

pub returns : goal.returns
returns c = write_alone
