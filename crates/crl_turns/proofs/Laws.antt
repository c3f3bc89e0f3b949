-- Laws of the words of the turns, for the crates above.
use Rattle.std.proofs.Common.{ℕ, ◌≤◌, List, [], ◌∷◌, ◌++◌, length, sym, ◌∙◌}
use Rattle.crl_model.specs.declared.event.Event.{Event}
use Rattle.crl_turns.specs.declared.faults.AppendFault.{AppendFault}
use Rattle.crl_turns.specs.declared.faults.AppendFault.TheVariants.{Moved, Spent}
use Rattle.crl_turns.specs.declared.turned.Shape.{Shape}
use Rattle.crl_turns.specs.declared.view.View.{View}
use Rattle.crl_turns.specs.Calls.{HasValue, RefusesAppend}
use Rattle.crl_turns.specs.Fronts.{Begins, Runs, Spares}
use Rattle.crl_turns.specs.Rule.{HoldsTurn, StandsFor}
use Rattle.crl_turns.proofs.Holders.{empty_held}
use Rattle.crl_turns.proofs.Logs as logs

-- a pass that has a value holds its turn
pub holds_what_it_has : (part : ℕ) (view : View) → HasValue part view → HoldsTurn part view
holds_what_it_has part view has free = empty_held (sym has ∙ free)

module _ {E : Type 0} where
  pub begins_same : (whole : List E) → Begins whole whole
  begins_same = logs.begins_same

  pub begins_trans : (start middle whole : List E) → Begins start middle → Begins middle whole → Begins start whole
  begins_trans = logs.begins_trans

  pub begins_length : (start whole : List E) → Begins start whole → length start ≤ length whole
  begins_length = logs.begins_length

  -- What each event leaves that doesn't touch a part, a whole run leaves whose further events don't touch it.
  pub stands_still : {V : Type 0} (enabled touches : List E → E → Type 0) (stands : List E → V → Type 0)
      → ((front : List E) (event : E) (value : V) → stands front value → enabled front event → (touches front event → ⊥) → stands (front ++ event ∷ []) value)
      → (front log : List E) (value : V) → Begins front log → Runs enabled log → Spares touches (length front) log → stands front value → stands log value
  stands_still enabled touches stands stays front log value = logs.still enabled touches stands stays front log value

module _ {V : Type 0} (shape : V → Shape) (enabled : Shape → List Event → Event → Type 0) (touches : Shape → List Event → Event → ℕ → Type 0) (stands : Shape → ℕ → List Event → V → Type 0) (common : Shape) where
  -- where an append is refused, what stood for a part whose turn the pass holds still stands
  pub still_if_refused : (saw : ℕ) (old new : View) (fault : AppendFault) (part : ℕ) (value : V) → RefusesAppend shape enabled touches stands common saw old fault new
      → HoldsTurn part old → StandsFor shape stands common part old.front value → StandsFor shape stands common part new.front value
  still_if_refused saw old new (Moved same found) part value refused holds stood = refused.2.grows.still part value holds stood
  still_if_refused saw old new Spent part value refused holds stood = refused.still part value holds stood
