use Rattle.std.proofs.Common.{◌≡◌, ℕ, ◌<◌, drop, length, None}
use Rattle.crl_model.specs.FoldOf.{fold_of}
use Rattle.crl_protocol.specs.Places.{at}
use Rattle.crl_gathering.specs.RoundState.{present}
use Rattle.crl_gathering.specs.Tallies.{tally_gives, IsWithin}
use Rattle.crl_gathering.proofs.slots.fold_slots.Given as goal

abbrev pub invariant-loop-place : goal.invariant-loop-place
invariant-loop-place l = record {
  gives : tally_gives l.tally (present (drop l.place l.slots)) ≡ fold_of (present l.fn.slots);
  within : IsWithin l.place l.tally;
  nothing : (n : ℕ) → n < l.place → at n l.slots ≡ None;
  places : length l.slots ≡ length l.fn.slots;
}
