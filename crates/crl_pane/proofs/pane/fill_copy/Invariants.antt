use Rattle.std.proofs.Common.{length, take, ◌-◌, ◌≡◌, ◌+◌}
use Rattle.crl_pane.proofs.pane.fill_copy.Given as goal

abbrev pub invariant-loop-i : goal.invariant-loop-i
invariant-loop-i l = (l.start.ptr ≡ l.row.at) × (l.row.at ≡ l.fn.row.at) × (l.row.items ≡ take l.i l.bytes) × (l.row.left + l.i ≡ length l.bytes)

abbrev pub decreases-loop-i : goal.decreases-loop-i
decreases-loop-i l = length l.bytes - l.i
