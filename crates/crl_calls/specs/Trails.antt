-- What a pass did itself between two of its views.
use Rattle.std.specs.Prelude.{◌≡◌, ℕ, suc, ◌≤◌, ◌^◌, ◌⊎◌, Bool, true, false, List, [], ◌∷◌, ◌++◌, length, slice_get, Some}
use Rattle.crl_model.specs.declared.call.Call.{Call}
use Rattle.crl_model.specs.declared.event.Event.{Event}
use Rattle.crl_model.specs.declared.event.Event.TheVariants as event
use Rattle.crl_protocol.specs.Node.{Node, Answer, Wait}
use Rattle.crl_protocol.specs.World.{step, IsRun}
use Rattle.crl_turns.specs.declared.turned.Shape.{Shape}
use Rattle.crl_turns.specs.declared.view.Place.TheVariants.{Free}
use Rattle.crl_turns.specs.declared.view.View.{View}
use Rattle.crl_turns.specs.Fronts.{Begins}
use Rattle.crl_turns.specs.Rule.{value_place}
use Rattle.crl_cluster.specs.Standing.{world_at, MayCome}

-- a piece is handled or carried: neither a call nor a collect
abbrev pub is_move : Event → Bool
is_move (event.Call i c) = false
is_move (event.Collect i) = false
is_move (event.Handle i place) = true
is_move (event.Carry i place) = true

abbrev pub AreMoves : List Event → Type 0
AreMoves [] = Unit {0}
AreMoves (e ∷ es) = (is_move e ≡ true) × AreMoves es

-- At these positions of the front, which rise and of which none is before the first one, stand these events.
abbrev pub AreAt : List Event → ℕ → List ℕ → List Event → Type 0
AreAt front first [] [] = Unit {0}
AreAt front first [] (e ∷ es) = ⊥
AreAt front first (p ∷ ps) [] = ⊥
AreAt front first (p ∷ ps) (e ∷ es) = (first ≤ p) × (slice_get front p ≡ Some e) × AreAt front (suc p) ps es

-- each turn that the pass holds it held before
abbrev pub HoldsNoMore : View → View → Type 0
HoldsNoMore old new = (part : ℕ) → (value_place part new.holds ≡ Free) ⊎ (value_place part new.holds ≡ value_place part old.holds)

-- The front has grown. Of what was added these events, in this order, are the pass's own: it appended them itself. No pass
-- was split from it.
pub record Walks (old : View) (events : List Event) (new : View) : Type 0 where
  pub begins : Begins old.front new.front
  pub gained : List ℕ
  pub own : new.own ≡ old.own ++ gained
  pub each : AreAt new.front (length old.front) gained events
  pub splits : new.splits ≡ old.splits
  pub holds : HoldsNoMore old new

-- its own were carriages and handled pieces alone
pub record Moves (old new : View) : Type 0 where
  pub events : List Event
  pub moves : AreMoves events
  pub walks : Walks old events new

-- The front's last event is the pass's own: the last of its own positions is the length of the front without that event.
pub record OwnsLast (view : View) : Type 0 where
  pub before : List Event
  pub last : Event
  pub front_is : view.front ≡ before ++ last ∷ []
  pub earlier : List ℕ
  pub own_is : view.own ≡ earlier ++ length before ∷ []

-- The front ends with this event, and the protocol gives this answer there.
pub record Ends (s : Shape) (e : Event) (answer : Answer) (front : List Event) : Type 0 where
  pub before : List Event
  pub front_is : front ≡ before ++ e ∷ []
  pub run : IsRun s.parts s.extra before
  pub enabled : MayCome s before e
  pub answer_is : answer ≡ (step e (world_at s before)).answer

-- The pass's own events of a call that was answered, by whether the answer was collected: pieces are moved, the call is
-- made, and then pieces are moved and the answer is collected.
pub data IsTrail (node : ℕ) (c : Call) : Bool → List Event → Type 0 where
  at_once : (moves : List Event) → AreMoves moves → IsTrail node c false (moves ++ event.Call node c ∷ [])
  collected : (moves more : List Event) → AreMoves moves → AreMoves more
      → IsTrail node c true ((moves ++ event.Call node c ∷ []) ++ (more ++ event.Collect node ∷ []))

-- the event that gave the answer
abbrev pub answering : ℕ → Call → Bool → Event
answering node c false = event.Call node c
answering node c true = event.Collect node

-- Pieces were moved, and then this event was done, with this answer.
pub record Does (s : Shape) (e : Event) (old : View) (answer : Answer) (new : View) : Type 0 where
  pub events : List Event
  pub moves : AreMoves events
  pub walks : Walks old (events ++ e ∷ []) new
  pub ends : Ends s e answer new.front
  pub last : OwnsLast new

-- Where the answer was collected, the call was answered Wait when it was made: then the pass had this view.
pub record Waited (s : Shape) (node : ℕ) (c : Call) (old : View) (answer : Answer) (new : View) : Type 0 where
  pub middle : View
  pub made : Does s (event.Call node c) old Wait middle
  pub took : Does s (event.Collect node) middle answer new

abbrev pub WaitedIf : Bool → Shape → ℕ → Call → View → Answer → View → Type 0
WaitedIf false s node c old answer new = Unit {0}
WaitedIf true s node c old answer new = Waited s node c old answer new

-- The call was made and answered at the node. The front ends with the event that gave the answer, which is the pass's own.
pub record AnswersCall (s : Shape) (node : ℕ) (c : Call) (old : View) (later : Bool) (answer : Answer) (new : View) : Type 0 where
  pub events : List Event
  pub trail : IsTrail node c later events
  pub walks : Walks old events new
  pub ends : Ends s (answering node c later) answer new.front
  pub last : OwnsLast new
  pub waited : WaitedIf later s node c old answer new

-- The pass's own events of a call that was not answered: the call may have been made.
pub data IsPartOfTrail (node : ℕ) (c : Call) : List Event → Type 0 where
  unmade : (moves : List Event) → AreMoves moves → IsPartOfTrail node c moves
  waiting : (moves more : List Event) → AreMoves moves → AreMoves more → IsPartOfTrail node c ((moves ++ event.Call node c ∷ []) ++ more)

-- No event fits any more: the front is as long as a history may be.
pub record RunsFull (node : ℕ) (c : Call) (old new : View) : Type 0 where
  pub events : List Event
  pub trail : IsPartOfTrail node c events
  pub walks : Walks old events new
  pub full : length new.front ≡ 2 ^ 62

-- The front ends with this event, and the node was so before it.
pub record EndsWhere (s : Shape) (node : ℕ) (is_so : Node → Bool) (e : Event) (front : List Event) : Type 0 where
  pub before : List Event
  pub front_is : front ≡ before ++ e ∷ []
  pub was_so : is_so ((world_at s before).nodes node) ≡ true

-- Pieces were moved, and the history is full.
abbrev pub MovesToTheEnd : View → View → Type 0
MovesToTheEnd old new = Moves old new × (length new.front ≡ 2 ^ 62)
