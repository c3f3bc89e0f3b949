use Rattle.std.proofs.Common.{◌≡◌}
use Rattle.crl_journal.specs.Merging.{next_below}
use Rattle.crl_journal.proofs.merging.next_journal.Given as goal

abbrev pub invariant-loop-i : goal.invariant-loop-i
invariant-loop-i l = l.next ≡ next_below l.i l.journals
