use Rattle.std.proofs.Common.{◌≡◌, ◌+◌, ◌-◌, ◌++◌}
use Rattle.crl_machine.specs.Seen.{state}
use Rattle.crl_machine.specs.FinalRegions.{regions_at}
use Rattle.crl_machine.proofs.machine.Machine.add_home.Given as goal

abbrev pub invariant-loop-count : goal.invariant-loop-count
invariant-loop-count l = l.regions.items ++ regions_at (state l.self) l.home (l.count + 1) (l.count-end - l.count) ≡ l.fn.regions.items ++ regions_at (state l.self) l.home 1 l.count-end
