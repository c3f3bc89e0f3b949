use Rattle.std.proofs.Common.{◌≡◌, drop, max}
use Rattle.crl_gathering.specs.Lengths.{longest_sent}
use Rattle.crl_gathering.proofs.slots.longest.Given as goal

abbrev pub invariant-loop-slot : goal.invariant-loop-slot
invariant-loop-slot l = max l.longest (longest_sent (drop l.slot-index l.slots)) ≡ longest_sent l.slots
