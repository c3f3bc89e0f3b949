use Rattle.crl_regions.proofs.sizes_are_known.Goals as goal
use Rattle.crl_regions.proofs.NodeLaws.{sizes_known}

pub returns : goal.returns
returns c = sizes_known
