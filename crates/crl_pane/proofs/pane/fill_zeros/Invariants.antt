use Rattle.std.proofs.Common.{◌-◌, ◌≡◌, ◌+◌, replicate}
use Rattle.crl_pane.proofs.pane.fill_zeros.Given as goal

abbrev pub invariant-loop-i : goal.invariant-loop-i
invariant-loop-i l = (l.start.ptr ≡ l.row.at) × (l.row.at ≡ l.fn.row.at) × (l.row.items ≡ replicate l.i 0) × (l.row.left + l.i ≡ l.len)

abbrev pub decreases-loop-i : goal.decreases-loop-i
decreases-loop-i l = l.len - l.i
