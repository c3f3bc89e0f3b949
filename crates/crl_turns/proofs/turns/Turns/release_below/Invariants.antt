use Rattle.std.proofs.Common.{◌≡◌, ◌≤◌, []}
use Rattle.crl_turns.specs.Closing.{HoldsBelow}
use Rattle.crl_turns.proofs.turns.Turns.release_below.Given as goal

abbrev pub invariant-loop-j : goal.invariant-loop-j
invariant-loop-j g l = (l.j ≤ l.fn.count) × (l.seat.table_id ≡ l.initial.seat.table_id) × (l.seat.me.1 ≡ []) × HoldsBelow l.j l.initial.seat.me.0 l.seat.me.0

abbrev pub decreases-loop-j : goal.decreases-loop-j
decreases-loop-j g l = l.j
