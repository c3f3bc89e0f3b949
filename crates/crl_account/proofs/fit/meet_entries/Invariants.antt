use Rattle.std.proofs.Common.{take}
use Rattle.std.specs.List.{All}
use Rattle.crl_account.specs.Account.{FitsEntry}
use Rattle.crl_account.proofs.fit.meet_entries.Given as goal

-- those so far fit
abbrev pub invariant-loop-entry : goal.invariant-loop-entry
invariant-loop-entry l = All FitsEntry (take l.entry-index l.entries)
