-- What a pass knows whose event was appended.
use Rattle.std.specs.Prelude.{◌≡◌, List, [], ◌∷◌, ◌++◌, length}
use Rattle.crl_model.specs.declared.event.Event.{Event}
use Rattle.crl_turns.specs.declared.view.View.{View}
use Rattle.crl_turns.specs.Fronts.{Begins}

-- The front ends with the event, and its position is the pass's own.
pub record Counts (event : Event) (old new : View) : Type 0 where
  pub before : List Event
  pub begins : Begins old.front before
  pub ends : new.front ≡ before ++ event ∷ []
  pub own : new.own ≡ old.own ++ length before ∷ []
