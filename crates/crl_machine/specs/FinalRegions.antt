-- The regions that are there in a state of the single machine, by name, with their bytes.
use Rattle.std.specs.Prelude.{ℕ, zero, suc, ◌+◌, List, [], ◌∷◌, ◌++◌, if◌then◌else◌}
use Rattle.crl_model.specs.declared.name.Name.{Name}
use Rattle.crl_model.specs.declared.report.FinalRegion.{FinalRegion}
use Rattle.crl_model.specs.Stages.{is_there}
use Rattle.crl_machine.specs.SingleMachine.{State}

-- the region of this name, if it is there
abbrev pub region_named : State → Name → List FinalRegion
region_named s name = if is_there (s.stage name) then record { name = name; bytes = s.bytes name } ∷ [] else []

-- those of `count` names of a home, from this serial on
abbrev pub regions_at : State → ℕ → ℕ → ℕ → List FinalRegion
regions_at s home serial zero = []
regions_at s home serial (suc count) = region_named s (record { home = home; serial = serial }) ++ regions_at s home (serial + 1) count

-- those of `count` homes, from this one on
abbrev pub regions_from : State → ℕ → ℕ → List FinalRegion
regions_from s home zero = []
regions_from s home (suc count) = regions_at s home 1 (s.used home) ++ regions_from s (home + 1) count

-- every region that is there
abbrev pub final_regions : State → List FinalRegion
final_regions s = regions_from s 0 s.nodes
