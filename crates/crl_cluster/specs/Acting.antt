-- What a call tells of its pass.
use Rattle.std.specs.Prelude.{◌≡◌, ℕ, ◌<◌, ◌≤◌, ◌^◌, List, [], ◌∷◌, ◌++◌, length}
use Rattle.crl_model.specs.declared.event.Event.{Event}
use Rattle.crl_protocol.specs.Node.{Node, Answer}
use Rattle.crl_protocol.specs.Talk.{Heard, hears_of}
use Rattle.crl_protocol.specs.World.{step, IsRun}
use Rattle.crl_deeds.specs.Laws.{node_of}
use Rattle.crl_turns.specs.declared.turned.Shape.{Shape}
use Rattle.crl_turns.specs.declared.view.View.{View}
use Rattle.crl_turns.specs.Fronts.{Begins}
use Rattle.crl_turns.specs.Calls.{after_take}
use Rattle.crl_turns.specs.Plays.{after_load, after_append, after_join, longer}
use Rattle.crl_cluster.specs.declared.held.Held.{Held}
use Rattle.crl_cluster.specs.declared.faults.StepFault.{StepFault}
use Rattle.crl_cluster.specs.declared.faults.StepFault.TheVariants.{OutOfMemory, Moved, Spent}
use Rattle.crl_cluster.specs.Standing.{world_at, heard_at, MayCome}
use Rattle.crl_cluster.specs.Clusters.{IsHeld, GrowsPast, held_by}

-- The node was got, and the front is the history at that time.
pub record Holds {N T : Type 0} (state : N → Node) (stands : ℕ → List Heard → T → Type 0) (s : Shape) (node : ℕ) (old : View) (held : Held N T) (new : View)
    : Type 0 where
  pub number : held.number ≡ node
  pub is_held : IsHeld state s new held
  pub luggage : stands node (heard_at s node new.front) held.behind.luggage
  pub grows : GrowsPast (held_by old) s old.front new.front
  pub view : new ≡ after_take node new.front old

-- the count is the length of the front
pub record Sees (s : Shape) (old : View) (count : ℕ) (new : View) : Type 0 where
  pub counts : count ≡ length new.front
  pub grows : GrowsPast (held_by old) s old.front new.front
  pub view : new ≡ after_load new.front old

-- The event came behind a history that the pass loaded: it is the last of the front, at its position, which is the only one
-- that was added to the pass's own. Before it there are events that touch no node which the pass holds.
pub record Comes (s : Shape) (e : Event) (old new : View) : Type 0 where
  pub before : List Event
  pub grows : GrowsPast (held_by old) s old.front before
  pub room : length before < 2 ^ 62
  pub enabled : MayCome s before e
  pub run : IsRun s.parts s.extra before
  pub front : new.front ≡ before ++ e ∷ []
  pub view : new ≡ after_append before e (after_load before old)

-- the same, at this position
pub record ComesAt (at : ℕ) (s : Shape) (e : Event) (old new : View) : Type 0 where
  pub comes : Comes s e old new
  pub at_is : at ≡ length comes.before

-- The event is done, with the answer that the protocol gives there. The node heard it.
pub record IsDone (s : Shape) (e : Event) (old : View) (answer : Answer) (new : View) : Type 0 where
  pub comes : Comes s e old new
  pub answer_is : answer ≡ (step e (world_at s comes.before)).answer
  pub heard : heard_at s (node_of e) new.front ≡ heard_at s (node_of e) old.front ++ hears_of (node_of e) e answer

-- Others had appended events behind the count that was loaded.
pub record IsMoved (s : Shape) (old : View) (saw found : ℕ) (new : View) : Type 0 where
  pub known : length old.front ≤ saw
  pub more : saw < found
  pub counts : found ≡ length new.front
  pub limit : found < 2 ^ 62
  pub grows : GrowsPast (held_by old) s old.front new.front
  pub view : new ≡ after_load new.front old

-- no event fits any more
pub record IsSpent (s : Shape) (old new : View) : Type 0 where
  pub full : length new.front ≡ 2 ^ 62
  pub grows : GrowsPast (held_by old) s old.front new.front
  pub view : new ≡ after_load new.front old

-- The fault is what events of others brought, and not want of memory.
abbrev pub IsByOthers : StepFault → Type 0
IsByOthers OutOfMemory = ⊥
IsByOthers (Moved saw found) = Unit {0}
IsByOthers Spent = Unit {0}

-- Why the event was not done, and what the pass has learnt.
abbrev pub IsUndone : Shape → View → StepFault → View → Type 0
IsUndone s old OutOfMemory new = new ≡ old
IsUndone s old (Moved saw found) new = IsMoved s old saw found new
IsUndone s old Spent new = IsSpent s old new

-- The front is the longer of the two, which both begin.
pub record Joins (s : Shape) (old other new : View) : Type 0 where
  pub front : new.front ≡ longer old.front other.front
  pub grows : GrowsPast (held_by old) s old.front new.front
  pub begins : Begins other.front new.front
  pub view : new ≡ after_load new.front (after_join old other)
