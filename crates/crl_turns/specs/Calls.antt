-- What a call tells of its pass.
use Rattle.std.specs.Prelude.{◌≡◌, ℕ, ◌^◌, ◌≤◌, ◌<◌, true, List, [], ◌∷◌, ◌++◌, length}
use Rattle.crl_model.specs.declared.event.Event.{Event}
use Rattle.crl_turns.specs.declared.turned.Shape.{Shape}
use Rattle.crl_turns.specs.declared.view.Place.TheVariants.{Free, Drawn, Empty}
use Rattle.crl_turns.specs.declared.view.View.{View}
use Rattle.crl_turns.specs.Fronts.{Begins, Runs, Spares}
use Rattle.crl_turns.specs.Rule.{HoldsTurn, value_place, StandsFor}
use Rattle.crl_turns.specs.Plays.{with_holding, attempt, after_load, after_append, after_join, longer}
use Rattle.crl_turns.specs.declared.faults.AppendFault.{AppendFault}
use Rattle.crl_turns.specs.declared.faults.AppendFault.TheVariants.{Moved, Spent}

-- the pass has the turn and the value of the part
abbrev pub HasValue : ℕ → View → Type 0
HasValue part view = value_place part view.holds ≡ Empty

-- the pass got the turn and the value of the part, and then loaded the count
abbrev pub after_take : ℕ → List Event → View → View
after_take part log view = record view { front = log; known = log; tried = view.tried ++ attempt part true; holds = with_holding part Empty (with_holding part Drawn view.holds) }

-- the pass gave both back
abbrev pub after_give_back : ℕ → View → View
after_give_back part view = record view { holds = with_holding part Free (with_holding part Drawn view.holds) }

module _ {V : Type 0} (shape : V → Shape) (enabled : Shape → List Event → Event → Type 0) (touches : Shape → List Event → Event → ℕ → Type 0) (stands : Shape → ℕ → List Event → V → Type 0) (common : Shape) where
  -- The front is a run that begins with the front before. What came since touches no part whose turn the pass holds,
  -- so what stood for such a part still stands for it.
  pub record Grows (old : View) (front : List Event) : Type 0 where
    pub begins : Begins old.front front
    pub runs : Runs (enabled common) front
    pub limit : length front ≤ 2 ^ 62
    pub spares : (part : ℕ) → HoldsTurn part old → Spares (λ before event. touches common before event part) (length old.front) front
    pub still : (part : ℕ) (value : V) → HoldsTurn part old → StandsFor shape stands common part old.front value → StandsFor shape stands common part front value

  -- The turn was got, and with it a value that stands for the part after the front.
  pub record Takes (part : ℕ) (old : View) (value : V) (new : View) : Type 0 where
    pub stands_for : StandsFor shape stands common part new.front value
    pub grows : Grows old new.front
    pub view : new ≡ after_take part new.front old

  -- The count is the length of the front after the call.
  pub record Looks (old : View) (count : ℕ) (new : View) : Type 0 where
    pub counts : count ≡ length new.front
    pub grows : Grows old new.front
    pub view : new ≡ after_load new.front old

  -- The event came behind the front. What stood for a part that it doesn't touch still stands for it.
  pub record Appends (old : View) (event : Event) (new : View) : Type 0 where
    pub ends : new.front ≡ old.front ++ event ∷ []
    pub runs : Runs (enabled common) new.front
    pub limit : length new.front ≤ 2 ^ 62
    pub still : (part : ℕ) (value : V) → (touches common old.front event part → ⊥) → StandsFor shape stands common part old.front value → StandsFor shape stands common part new.front value
    pub view : new ≡ after_append old.front event old

  -- Others had appended events, and the front has learnt of them.
  pub record FindsMore (saw : ℕ) (old : View) (found : ℕ) (new : View) : Type 0 where
    pub more : saw < found
    pub counts : found ≡ length new.front
    pub grows : Grows old new.front
    pub view : new ≡ after_load new.front old

  -- No event fits any more.
  pub record FindsFull (old new : View) : Type 0 where
    pub full : length new.front ≡ 2 ^ 62
    pub begins : Begins old.front new.front
    pub runs : Runs (enabled common) old.front → Runs (enabled common) new.front
    pub spares : (part : ℕ) → HoldsTurn part old → Spares (λ before event. touches common before event part) (length old.front) new.front
    pub still : (part : ℕ) (value : V) → HoldsTurn part old → StandsFor shape stands common part old.front value → StandsFor shape stands common part new.front value
    pub view : new ≡ after_load new.front old

  -- Why the event was not appended, and what the pass has learnt. Spent comes exactly where the history is full.
  abbrev pub RefusesAppend : ℕ → View → AppendFault → View → Type 0
  RefusesAppend saw old (Moved same found) new = (same ≡ saw) × (found < 2 ^ 62) × FindsMore saw old found new
  RefusesAppend saw old Spent new = FindsFull old new

  -- The front is the longer of the two, which both begin.
  pub record JoinsFronts (old other new : View) : Type 0 where
    pub front : new.front ≡ longer old.front other.front
    pub grows : Grows old new.front
    pub begins : Begins other.front new.front
    pub view : new ≡ after_load new.front (after_join old other)
