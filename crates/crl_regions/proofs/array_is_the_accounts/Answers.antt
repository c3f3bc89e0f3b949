use Rattle.crl_regions.proofs.array_is_the_accounts.Goals as goal
use Rattle.crl_regions.proofs.Accounts.{array_accounted}

pub returns : goal.returns
returns c = array_accounted
