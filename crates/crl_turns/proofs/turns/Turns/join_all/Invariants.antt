use Rattle.std.proofs.Common.{◌≡◌, ◌⊎◌, length}
use Rattle.crl_turns.specs.declared.turns.Pass.{Pass}
use Rattle.crl_turns.specs.Fronts.{Begins}
use Rattle.crl_turns.specs.Rule.{IsAmong}
use Rattle.crl_turns.specs.Passes.{view_of}
use Rattle.crl_turns.proofs.turns.Turns.join_all.Given as goal

abbrev pub invariant-loop-other : goal.invariant-loop-other
invariant-loop-other g l =
    (l.first.badge.table_id ≡ l.initial.first.badge.table_id)
    × Begins (view_of l.initial.first).front (view_of l.first).front
    × ((view_of l.first).holds ≡ (view_of l.initial.first).holds) × ((view_of l.first).tried ≡ (view_of l.initial.first).tried) × ((view_of l.first).splits ≡ (view_of l.initial.first).splits)
    × ((p : Pass) → IsAmong p l.others.items → IsAmong p l.initial.others.items)
    × ((p : Pass) → IsAmong p l.initial.others.items → IsAmong p l.others.items ⊎ Begins (view_of p).front (view_of l.first).front)

abbrev pub decreases-loop-other : goal.decreases-loop-other
decreases-loop-other g l = length l.others.items
