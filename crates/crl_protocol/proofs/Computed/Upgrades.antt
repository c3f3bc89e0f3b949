-- Worked runs are computed: copies that change their kind.
use Rattle.std.proofs.Common.{refl}
use Rattle.crl_protocol.specs.Compute.{everything}
use Rattle.crl_protocol.specs.Chosen.{running, turns_from, always_first}
use Rattle.crl_protocol.specs.Worked.Words.{Gives}
use Rattle.crl_protocol.specs.Worked.Upgrades.{two_upgrades_script, two_upgrades_report, downgrade_script, downgrade_report, return_before_release_script, return_before_release_report, return_before_release_order}

pub two_upgrades : Gives 3 16 two_upgrades_script always_first two_upgrades_report
unfolding everything
two_upgrades = record {
  end = turns_from always_first 1 79 (running 3 16 two_upgrades_script);
  chosen = record { turns = 79; reached = refl; finished = refl };
  reported = refl;
}

pub downgrade : Gives 2 16 downgrade_script always_first downgrade_report
unfolding everything
downgrade = record {
  end = turns_from always_first 1 40 (running 2 16 downgrade_script);
  chosen = record { turns = 40; reached = refl; finished = refl };
  reported = refl;
}

pub return_before_release : Gives 2 16 return_before_release_script return_before_release_order return_before_release_report
unfolding everything
return_before_release = record {
  end = turns_from return_before_release_order 1 34 (running 2 16 return_before_release_script);
  chosen = record { turns = 34; reached = refl; finished = refl };
  reported = refl;
}
