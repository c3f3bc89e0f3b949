-- What is said of a pass, and of the turns that it is of.
use Rattle.std.specs.Prelude.{◌≡◌, ℕ}
use Rattle.crl_turns.specs.declared.turned.Shape.{Shape}
use Rattle.crl_turns.specs.declared.turns.Pass.{Pass}
use Rattle.crl_turns.specs.declared.turns.Turns.{Turns}
use Rattle.crl_turns.specs.declared.view.View.{View}
use Rattle.crl_turns.specs.Plays.{only_view}

-- what the pass knows
abbrev pub view_of : Pass → View
view_of pass = only_view pass.badge.views

module _ {V : Type 0} where
  -- the number of the parts
  abbrev pub part_count : Turns V → ℕ
  part_count turns = turns.table.shared.table_id.slots

  -- the shape that all values have
  abbrev pub common_shape : Turns V → Shape
  common_shape turns = turns.table.shared.key

  abbrev pub IsOf : Turns V → Pass → Type 0
  IsOf turns pass = pass.badge.table_id ≡ turns.table.shared.table_id
