use Rattle.std.proofs.Common.{◌≡◌, ℕ, ◌-◌, ◌≤◌, ◌<◌, true, false, slice_index_or, vec_capacity}
use Rattle.std.specs.Slots.{slots_items, slots_len, slots_filled}
use Rattle.crl_turns.specs.Closing.{IsDrained}
use Rattle.crl_turns.proofs.closing.drained.Given as goal

abbrev pub invariant-loop-i : goal.invariant-loop-i
invariant-loop-i g l =
    (l.parts ≡ slots_len l.closed.slots) × (l.i ≤ l.parts) × (slots_items l.closed.slots ≡ slots_items l.initial.closed.slots) × (slots_len l.closed.slots ≡ slots_len l.initial.closed.slots)
    × ((k : ℕ) → k < l.i → slice_index_or (slots_filled l.closed.slots) k false ≡ false)
    × ((k : ℕ) → l.i ≤ k → k < l.parts → slice_index_or (slots_filled l.closed.slots) k false ≡ true)
    × (l.parts ≤ vec_capacity l.values) × IsDrained l.i (slots_items l.initial.closed.slots) l.values.items

abbrev pub decreases-loop-i : goal.decreases-loop-i
decreases-loop-i g l = l.parts - l.i
