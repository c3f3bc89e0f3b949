use Rattle.std.proofs.Common.{◌≡◌, ◌++◌}
use Rattle.crl_journal.specs.Merging.{merged_account}
use Rattle.crl_journal.proofs.Popping.{left}
use Rattle.crl_journal.proofs.merging.merge.Given as goal

-- the entries so far and the account of what is left are the account of the whole
abbrev pub invariant-loop-i : goal.invariant-loop-i
invariant-loop-i l = l.entries.items ++ merged_account l.journals ≡ merged_account l.fn.journals

abbrev pub decreases-loop-i : goal.decreases-loop-i
decreases-loop-i l = left l.journals
