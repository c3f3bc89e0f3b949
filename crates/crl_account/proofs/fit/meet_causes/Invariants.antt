use Rattle.std.proofs.Common.{take}
use Rattle.std.specs.List.{All}
use Rattle.crl_account.specs.Reports.{FitsBlocked}
use Rattle.crl_account.proofs.fit.meet_causes.Given as goal

-- those so far fit
abbrev pub invariant-loop-cause : goal.invariant-loop-cause
invariant-loop-cause l = All FitsBlocked (take l.cause-index l.causes)
