-- Worked runs are computed: calls that are refused.
use Rattle.std.proofs.Common.{refl}
use Rattle.crl_protocol.specs.Compute.{everything}
use Rattle.crl_protocol.specs.Chosen.{running, turns_from, always_first}
use Rattle.crl_protocol.specs.Worked.Words.{Gives}
use Rattle.crl_protocol.specs.Worked.Refusals.{section_rules_script, section_rules_report, names_and_sizes_script, names_and_sizes_report, unreal_names_script, unreal_names_report}

pub section_rules : Gives 1 16 section_rules_script always_first section_rules_report
unfolding everything
section_rules = record {
  end = turns_from always_first 1 16 (running 1 16 section_rules_script);
  chosen = record { turns = 16; reached = refl; finished = refl };
  reported = refl;
}

pub names_and_sizes : Gives 1 16 names_and_sizes_script always_first names_and_sizes_report
unfolding everything
names_and_sizes = record {
  end = turns_from always_first 1 5 (running 1 16 names_and_sizes_script);
  chosen = record { turns = 5; reached = refl; finished = refl };
  reported = refl;
}

pub unreal_names : Gives 2 16 unreal_names_script always_first unreal_names_report
unfolding everything
unreal_names = record {
  end = turns_from always_first 1 4 (running 2 16 unreal_names_script);
  chosen = record { turns = 4; reached = refl; finished = refl };
  reported = refl;
}
