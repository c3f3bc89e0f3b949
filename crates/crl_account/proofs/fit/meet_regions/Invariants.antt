use Rattle.std.proofs.Common.{take}
use Rattle.std.specs.List.{All}
use Rattle.crl_account.specs.Reports.{FitsRegion}
use Rattle.crl_account.proofs.fit.meet_regions.Given as goal

-- those so far fit
abbrev pub invariant-loop-region : goal.invariant-loop-region
invariant-loop-region l = All FitsRegion (take l.region-index l.regions)
