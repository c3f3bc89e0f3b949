use Rattle.std.proofs.Common.{◌≡◌, ℕ, None, length}
use Rattle.crl_protocol.specs.Places.{at}
use Rattle.crl_gathering.proofs.slots.empty_slots.Given as goal

abbrev pub invariant-loop : goal.invariant-loop
invariant-loop l = record {
  nothing : (n : ℕ) → at n l.slots.items ≡ None;
  places : length l.slots.items ≡ l.counter;
}
