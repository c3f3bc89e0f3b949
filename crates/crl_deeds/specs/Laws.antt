-- What the definitions have to mean: which nodes an event touches, where entries are decided, and which runs
-- a script has.
use Rattle.std.specs.Prelude.{◌≡◌, ℕ, ◌<◌, ◌==◌, Bool, true, false, ◌&&◌, ◌||◌, List, [], ◌∷◌}
use Rattle.std.specs.List.{All}
use Rattle.std.specs.declared.option.Option.{Option}
use Rattle.std.specs.declared.option.Option.TheVariants.{None, Some}
use Rattle.crl_model.specs.declared.call.Call.{Call}
use Rattle.crl_model.specs.declared.call.Call.TheVariants as call
use Rattle.crl_model.specs.declared.event.Event.{Event}
use Rattle.crl_model.specs.declared.event.Event.TheVariants as event
use Rattle.crl_model.specs.declared.statement.Statement.{Statement}
use Rattle.crl_model.specs.declared.statement.Statement.TheVariants as statement
use Rattle.crl_protocol.specs.Parcels.{Piece}
use Rattle.crl_protocol.specs.Places.{Taken, take_out}
use Rattle.crl_protocol.specs.Node.{Free}
use Rattle.crl_protocol.specs.Verdict.{verdict}
use Rattle.crl_protocol.specs.World.{World, is_enabled, world_of, account}
use Rattle.crl_protocol.specs.Chosen.{Running, running, turns_from, goes_on, with_actor, after_change, is_change, is_allowed, call_of}

-- An event touches its node; a carriage touches the sender and the addressee.
abbrev pub goes_to : ℕ → Option (Taken Piece) → Bool
goes_to m None = false
goes_to m (Some t) = t.taken.message.addressee == m

abbrev pub touches : Event → World → ℕ → Bool
touches (event.Call i c) w m = i == m
touches (event.Collect i) w m = i == m
touches (event.Handle i place) w m = i == m
touches (event.Carry i place) w m = (i == m) || goes_to m (take_out place (w.nodes i).outbox)

-- A run follows a script: each node's calls are its statements in order, the changes inside write sections
-- left out, and the answers and messages come in any order in which they may.
abbrev pub IsNext : Running → ℕ → Statement → List Statement → Type 0
IsNext r i s left = ((r.actors i).left ≡ s ∷ left) × ((r.world.nodes i).activity ≡ Free)

abbrev pub past_statement : Running → ℕ → List Statement → Running
past_statement r i left = with_actor i (record (r.actors i) { left = left }) r

abbrev pub next_call : Running → ℕ → Statement → Call
next_call r i s = call_of (r.world.nodes i) (r.actors i) s

-- the statement is a change that is allowed
abbrev pub is_inside : Running → ℕ → Statement → Bool
is_inside r i s = is_change s && is_allowed (verdict (r.world.nodes i) (next_call r i s))

abbrev pub node_of : Event → ℕ
node_of (event.Call i c) = i
node_of (event.Collect i) = i
node_of (event.Handle i place) = i
node_of (event.Carry i place) = i

abbrev pub is_call_event : Event → Bool
is_call_event (event.Call i c) = true
is_call_event _ = false

pub data Follows : Running → List Event → Running → Type 0 where
  ended : {r : Running} → Follows r [] r
  changes : {r end : Running} {es : List Event} (i : ℕ) (s : Statement) (left : List Statement) → (i < r.world.count) → IsNext r i s left
      → is_inside r i s ≡ true → Follows (with_actor i (after_change s (record (r.actors i) { left = left })) r) es end → Follows r es end
  calls : {r end : Running} {es : List Event} (i : ℕ) (s : Statement) (left : List Statement) → (i < r.world.count) → IsNext r i s left
      → is_inside r i s ≡ false → Follows (goes_on i (event.Call i (next_call r i s)) (past_statement r i left)) es end
      → Follows r (event.Call i (next_call r i s) ∷ es) end
  happens : {r end : Running} {es : List Event} (i : ℕ) (e : Event) → node_of e ≡ i → is_call_event e ≡ false → is_enabled e r.world ≡ true
      → Follows (goes_on i e r) es end → Follows r (e ∷ es) end

-- a statement as scripts have them: a change is no plain call
abbrev pub IsStatement : Statement → Type 0
IsStatement (statement.Call (call.Put name offset len)) = ⊥
IsStatement (statement.Call (call.Add name offset)) = ⊥
IsStatement _ = Unit {0}

abbrev pub AreStatements : List (List Statement) → Type 0
AreStatements blocks = All (λ block. All IsStatement block) blocks

-- what is chosen in so many turns
abbrev pub chosen : ℕ → ℕ → List (List Statement) → (ℕ → ℕ) → ℕ → Running
chosen count capacity blocks words k = turns_from words 1 k (running count capacity blocks)

-- the world and the entries of a run on its way are those of its events
pub record HasItsEvents (count capacity : ℕ) (r : Running) : Type 0 where
  pub world : r.world ≡ world_of count capacity r.events
  pub entries : r.entries ≡ account count capacity r.events

abbrev pub FollowsScript : ℕ → ℕ → List (List Statement) → Running → Type 0
FollowsScript count capacity blocks r = Follows (running count capacity blocks) r.events r

abbrev pub IsChosenBySome : ℕ → ℕ → List (List Statement) → Running → Type 0
IsChosenBySome count capacity blocks end = (words : ℕ → ℕ) × (k : ℕ) × (end ≡ chosen count capacity blocks words k)
