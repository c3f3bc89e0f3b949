use Rattle.std.proofs.Common.{◌≡◌, ◌≤◌, ◌-◌, []}
use Rattle.crl_turns.specs.Closing.{GotBelow}
use Rattle.crl_turns.proofs.turns.Turns.grab_all_as.Given as goal

abbrev pub invariant-loop-i : goal.invariant-loop-i
invariant-loop-i g l = (l.parts ≡ l.self.table.shared.table_id.slots) × (l.i ≤ l.parts) × (l.seat.table_id ≡ l.initial.seat.table_id) × (l.seat.me.1 ≡ []) × GotBelow l.i l.initial.seat.me.0 l.seat.me.0

abbrev pub decreases-loop-i : goal.decreases-loop-i
decreases-loop-i g l = l.parts - l.i
