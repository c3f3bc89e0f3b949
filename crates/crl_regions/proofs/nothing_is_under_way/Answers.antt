use Rattle.crl_regions.proofs.nothing_is_under_way.Goals as goal
use Rattle.crl_regions.proofs.Addressees.{quiet_boxes}

pub returns : goal.returns
returns c = quiet_boxes
