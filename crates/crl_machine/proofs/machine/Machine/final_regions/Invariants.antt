use Rattle.std.proofs.Common.{◌≡◌, ◌-◌, ◌++◌}
use Rattle.crl_machine.specs.Seen.{state}
use Rattle.crl_machine.specs.FinalRegions.{regions_from}
use Rattle.crl_machine.proofs.machine.Machine.final_regions.Given as goal

abbrev pub invariant-loop-home : goal.invariant-loop-home
invariant-loop-home l = l.regions.items ++ regions_from (state l.self) l.home (l.home-end - l.home) ≡ regions_from (state l.self) 0 l.home-end
