-- A world and its players stand for a run on its way.
use Rattle.std.specs.Prelude.{◌≡◌, ℕ, suc, ◌+◌, ◌<◌, ◌≤◌, true, false, List, [], ◌∷◌, ◌++◌, length, drop}
use Rattle.std.specs.declared.option.Option.{Option}
use Rattle.std.specs.declared.option.Option.TheVariants.{None, Some}
use Rattle.crl_model.specs.declared.call.Call.{Call}
use Rattle.crl_model.specs.declared.choice.Choice.TheVariants as choice
use Rattle.crl_model.specs.declared.event.Event.TheVariants as event
use Rattle.crl_model.specs.Names.{at_node}
use Rattle.crl_talk.specs.Guards.{Given}
use Rattle.crl_run.specs.Players.{guards_given}
use Rattle.crl_model.specs.declared.statement.Statement.{Statement}
use Rattle.crl_protocol.specs.Node.{Free}
use Rattle.crl_protocol.specs.Verdict.{verdict}
use Rattle.crl_protocol.specs.Talk.{hears}
use Rattle.crl_protocol.specs.World.{new_world, world_of, step, is_enabled, IsRunFrom}
use Rattle.crl_protocol.specs.Chosen.{Running, running, block_of, choices, turn, takes_choice}
use Rattle.crl_deeds.specs.Laws.{AreStatements, is_inside, next_call, chosen}
use Rattle.crl_stuck.specs.Ends.{statements_in, most_turns}
use Rattle.crl_run.specs.PlayerState.{PlayerState}
use Rattle.crl_run.specs.declared.act.Act.{Act}
use Rattle.crl_run.specs.Acting.{CanAct, Acts}
use Rattle.crl_run.specs.Fits.{GuardFits}
use Rattle.crl_run.specs.Actors.{IsActor, asked_call, call_made}
use Rattle.crl_run.specs.Hearing.{HoldsHeard}

-- A run on its way has the world of its events, which are a run.
pub record IsOnItsWay (count capacity : ℕ) (r : Running) : Type 0 where
  pub run : IsRunFrom (new_world count capacity) r.events
  pub world : r.world ≡ world_of count capacity r.events

-- The player of node i is where its actor is, and holds the guards that the node was given.
pub record PlayerStands (count capacity : ℕ) (blocks : List (List Statement)) (r : Running) (i : ℕ) (p : PlayerState) : Type 0 where
  pub actor : IsActor (block_of blocks i) p.place p.guards (r.actors i)
  pub heard : HoldsHeard (hears i (new_world count capacity) r.events) p.guards

-- So does the player of each node.
abbrev pub AllStand : ℕ → ℕ → List (List Statement) → Running → (ℕ → PlayerState) → Type 0
AllStand count capacity blocks r players = (i : ℕ) → i < count → PlayerStands count capacity blocks r i (players i)

-- Node i has taken its next statement, and holds these guards. Its player, a place further, stands for the run after it:
-- where it was a change, with these guards; where a call was made that may come, with the guard of the call's answer too.
abbrev pub AfterTaken : ℕ → ℕ → List (List Statement) → Running → (ℕ → PlayerState) → ℕ → List Given → Option Call → Type 0
AfterTaken count capacity blocks r players i new None = (p : PlayerState) → p.place ≡ suc (players i).place → p.guards ≡ new → AllStand count capacity blocks (takes_choice (choice.Statement i) r) (at_node players i p)
AfterTaken count capacity blocks r players i new (Some c) = (p : PlayerState) → p.place ≡ suc (players i).place → p.guards ≡ guards_given (step (event.Call i c) r.world).answer ++ new
    → is_enabled (event.Call i c) r.world ≡ true → AllStand count capacity blocks (takes_choice (choice.Statement i) r) (at_node players i p)

-- A free node takes its next statement. It finds the guards that it needs, and one that it spends fits its open section;
-- and its player stands for the run after it.
pub record TakesStatement (count capacity : ℕ) (blocks : List (List Statement)) (r : Running) (players : ℕ → PlayerState) (i : ℕ) (s : Statement) : Type 0 where
  pub can : CanAct (verdict (r.world.nodes i) (asked_call s)) s (players i).guards
  pub fits : (act : Act) (new : List Given) → Acts (verdict (r.world.nodes i) (asked_call s)) s (players i).guards act new → GuardFits i (r.world.nodes i) act
  pub taken : (act : Act) (new : List Given) → Acts (verdict (r.world.nodes i) (asked_call s)) s (players i).guards act new → AfterTaken count capacity blocks r players i new (call_made act)

-- of each next statement of a free node
abbrev pub StatementsAreTaken : ℕ → ℕ → List (List Statement) → Running → (ℕ → PlayerState) → Type 0
StatementsAreTaken count capacity blocks r players =
    (i : ℕ) (s : Statement) → i < count → (r.world.nodes i).activity ≡ Free → drop (players i).place (block_of blocks i) ≡ s ∷ drop (suc (players i).place) (block_of blocks i) → TakesStatement count capacity blocks r players i s

-- A node takes the answer for which it waited, and its player keeps the guard of the answer.
abbrev pub AnswersAreKept : ℕ → ℕ → List (List Statement) → Running → (ℕ → PlayerState) → Type 0
AnswersAreKept count capacity blocks r players =
    (i : ℕ) (p : PlayerState) → i < count → is_enabled (event.Collect i) r.world ≡ true → p.place ≡ (players i).place → p.guards ≡ guards_given (step (event.Collect i) r.world).answer ++ (players i).guards
    → AllStand count capacity blocks (takes_choice (choice.Collect i) r) (at_node players i p)

-- A message is handled or carried, and no player changes.
abbrev pub MessagesPass : ℕ → ℕ → List (List Statement) → Running → (ℕ → PlayerState) → Type 0
MessagesPass count capacity blocks r players =
    (i place : ℕ)
    → (is_enabled (event.Handle i place) r.world ≡ true → AllStand count capacity blocks (takes_choice (choice.Handle i place) r) players)
    × (is_enabled (event.Carry i place) r.world ≡ true → AllStand count capacity blocks (takes_choice (choice.Carry i place) r) players)

-- Each kind of choice of a run on its way for which the players stand.
pub record TurnsAreFollowed (count capacity : ℕ) (blocks : List (List Statement)) (r : Running) (players : ℕ → PlayerState) : Type 0 where
  pub statements : StatementsAreTaken count capacity blocks r players
  pub answers : AnswersAreKept count capacity blocks r players
  pub messages : MessagesPass count capacity blocks r players

-- the players of nodes that did nothing yet
abbrev pub AreNew : ℕ → (ℕ → PlayerState) → Type 0
AreNew count players = (i : ℕ) → i < count → ((players i).place ≡ 0) × ((players i).guards ≡ [])

-- The call that a free node makes for its next statement may come, where the run follows the script.
abbrev pub CallsMayCome : ℕ → ℕ → List (List Statement) → Running → Type 0
CallsMayCome count capacity blocks r =
    (i : ℕ) (s : Statement) (left : List Statement) → i < r.world.count → (r.world.nodes i).activity ≡ Free → (r.actors i).left ≡ s ∷ left → is_inside r i s ≡ false → is_enabled (event.Call i (next_call r i s)) r.world ≡ true

-- What is chosen in so many turns is on its way, with no more events than a run has turns. After as many turns as there may
-- be at most, no choice is left.
pub record IsChosenOn (count capacity : ℕ) (blocks : List (List Statement)) (words : ℕ → ℕ) (k : ℕ) : Type 0 where
  pub way : IsOnItsWay count capacity (chosen count capacity blocks words k)
  pub calls : CallsMayCome count capacity blocks (chosen count capacity blocks words k)
  pub next : chosen count capacity blocks words (k + 1) ≡ turn (words (k + 1)) (chosen count capacity blocks words k)
  pub few : length (chosen count capacity blocks words k).events ≤ most_turns count (statements_in count blocks)
  pub last : most_turns count (statements_in count blocks) ≤ k → choices (chosen count capacity blocks words k) ≡ []

-- New players stand for the run at its start; where they stand for a run on its way, they follow its turns; and what is
-- chosen in any number of turns goes on so.
abbrev pub NewPlayersStand : Type 0
NewPlayersStand = (count capacity : ℕ) (blocks : List (List Statement)) (players : ℕ → PlayerState) → AreNew count players → AllStand count capacity blocks (running count capacity blocks) players

abbrev pub PlayersFollow : Type 0
PlayersFollow =
    (count capacity : ℕ) (blocks : List (List Statement)) (r : Running) (players : ℕ → PlayerState) → IsOnItsWay count capacity r → AllStand count capacity blocks r players → TurnsAreFollowed count capacity blocks r players

abbrev pub ChosenRunsGoOn : Type 0
ChosenRunsGoOn = (count capacity : ℕ) (blocks : List (List Statement)) (words : ℕ → ℕ) (k : ℕ) → AreStatements blocks → IsChosenOn count capacity blocks words k
