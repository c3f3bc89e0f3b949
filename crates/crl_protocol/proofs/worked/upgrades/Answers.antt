use Rattle.crl_protocol.proofs.worked.upgrades.Goals as goal
use Rattle.crl_protocol.proofs.Computed.Upgrades.{two_upgrades, downgrade, return_before_release}

pub returns : goal.returns
returns c = record {
  two_upgrades = two_upgrades;
  downgrade = downgrade;
  return_before_release = return_before_release;
}
