-- The run that a script and an order of steps choose.
use Rattle.std.specs.Prelude.{◌≡◌, ℕ, zero, suc, ◌+◌, ◌^◌, ◌%◌, Bool, true, false, if◌then◌else◌, List, [], ◌∷◌, ◌++◌, length, take, drop, slice_index_or}
use Rattle.std.specs.Int.{to_be_bytes, from_be_bytes, w64}
use Rattle.std.specs.declared.option.Option.{Option}
use Rattle.std.specs.declared.option.Option.TheVariants.{None, Some}
use Rattle.crl_model.specs.declared.name.Name.{Name}
use Rattle.crl_model.specs.declared.call.Call.{Call}
use Rattle.crl_model.specs.declared.call.Call.TheVariants as call
use Rattle.crl_model.specs.declared.call.Refusal.{Refusal}
use Rattle.crl_model.specs.declared.choice.Choice.{Choice}
use Rattle.crl_model.specs.declared.choice.Choice.TheVariants as choice
use Rattle.crl_model.specs.declared.entry.Entry.{Entry}
use Rattle.crl_model.specs.declared.event.Event.{Event}
use Rattle.crl_model.specs.declared.event.Event.TheVariants as event
use Rattle.crl_protocol.specs.Parcels.{Piece}
use Rattle.crl_model.specs.declared.statement.Statement.{Statement}
use Rattle.crl_model.specs.declared.statement.Statement.TheVariants as statement
use Rattle.crl_model.specs.Names.{at_node, at_name}
use Rattle.crl_model.specs.Patches.{put_at}
use Rattle.crl_protocol.specs.Node.{Node, Answer, Activity, Free, Waiting, Ready, Writing}
use Rattle.crl_protocol.specs.Verdict.{verdict}
use Rattle.crl_protocol.specs.World.{World, new_world, WorldStep, step}

-- A node's place in its script: the statements that are left, and per open write section the bytes that the
-- changes inside it have made of those with which it began.
pub record Actor : Type 0 where
  pub left : List Statement
  pub drafts : Name → List ℕ

abbrev pub new_actor : List Statement → Actor
new_actor statements = record { left = statements; drafts = λ name. [] }

-- A run on its way: the world, the nodes' places, the events so far and the entries that they recorded.
pub record Running : Type 0 where
  pub world : World
  pub actors : ℕ → Actor
  pub events : List Event
  pub entries : List Entry

abbrev pub block_of : List (List Statement) → ℕ → List Statement
block_of blocks i = slice_index_or blocks i []

-- a script of so many nodes, with room for so many names in each cache, and a list of statements per node
abbrev pub running : ℕ → ℕ → List (List Statement) → Running
running count capacity blocks = record {
  world = new_world count capacity;
  actors = λ i. new_actor (block_of blocks i);
  events = [];
  entries = [];
}

-- The choices of a turn: first, by node, the next statement of a node that is free or the answer of one that
-- is ready; then the messages in the inboxes, by node and place; then those in the outboxes.
abbrev pub next_of : ℕ → List Statement → Activity → List Choice
next_of i [] Free = []
next_of i (s ∷ left) Free = choice.Statement i ∷ []
next_of i left (Waiting awaited) = []
next_of i left (Ready answer) = choice.Collect i ∷ []

abbrev pub nexts_from : ℕ → ℕ → Running → List Choice
nexts_from i zero r = []
nexts_from i (suc k) r = next_of i (r.actors i).left (r.world.nodes i).activity ++ nexts_from (i + 1) k r

abbrev pub handles_of : ℕ → ℕ → List Piece → List Choice
handles_of i place [] = []
handles_of i place (m ∷ ms) = choice.Handle i place ∷ handles_of i (place + 1) ms

abbrev pub handles_from : ℕ → ℕ → Running → List Choice
handles_from i zero r = []
handles_from i (suc k) r = handles_of i 0 (r.world.nodes i).inbox ++ handles_from (i + 1) k r

abbrev pub carries_of : ℕ → ℕ → List Piece → List Choice
carries_of i place [] = []
carries_of i place (m ∷ ms) = choice.Carry i place ∷ carries_of i (place + 1) ms

abbrev pub carries_from : ℕ → ℕ → Running → List Choice
carries_from i zero r = []
carries_from i (suc k) r = carries_of i 0 (r.world.nodes i).outbox ++ carries_from (i + 1) k r

abbrev pub choices : Running → List Choice
choices r = nexts_from 0 r.world.count r ++ (handles_from 0 r.world.count r ++ carries_from 0 r.world.count r)

-- The call of a statement. A write section that may end leaves its draft.
abbrev pub draft_of : Option Refusal → Name → Actor → List ℕ
draft_of None name a = a.drafts name
draft_of (Some why) name a = []

abbrev pub call_with : Node → Actor → Call → Call
call_with n a (call.EndWrite name after) = call.EndWrite name (draft_of (verdict n (call.EndWrite name after)) name a)
call_with n a c = c

abbrev pub call_of : Node → Actor → Statement → Call
call_of n a (statement.Call c) = call_with n a c
call_of n a (statement.Put name offset bytes) = call.Put name offset (length bytes)
call_of n a (statement.Add name offset number) = call.Add name offset

-- a change that is made on the draft of the open write section
abbrev pub eight_at : ℕ → List ℕ → List ℕ
eight_at offset bytes = take 8 (drop offset bytes)

abbrev pub with_sum : ℕ → ℕ → List ℕ → List ℕ
with_sum offset number bytes = put_at offset (to_be_bytes w64 ((from_be_bytes w64 (eight_at offset bytes) + number) % 2 ^ 64)) bytes

abbrev pub after_change : Statement → Actor → Actor
after_change (statement.Call c) a = a
after_change (statement.Put name offset bytes) a = record a { drafts = at_name a.drafts name (put_at offset bytes (a.drafts name)) }
after_change (statement.Add name offset number) a = record a { drafts = at_name a.drafts name (with_sum offset number (a.drafts name)) }

-- a change that isn't refused: it takes a turn and is no event
abbrev pub is_change : Statement → Bool
is_change (statement.Call c) = false
is_change (statement.Put name offset bytes) = true
is_change (statement.Add name offset number) = true

abbrev pub is_allowed : Option Refusal → Bool
is_allowed None = true
is_allowed (Some why) = false

-- a write section that opens begins its draft
abbrev pub takes_guard : Answer → Actor → Actor
takes_guard (Writing guard) a = record a { drafts = at_name a.drafts guard.name guard.bytes }
takes_guard _ a = a

-- an event of the run
abbrev pub going_on : ℕ → Event → WorldStep → Running → Running
going_on i e s r = record {
  world = s.world;
  actors = at_node r.actors i (takes_guard s.answer (r.actors i));
  events = r.events ++ e ∷ [];
  entries = r.entries ++ s.entries;
}

abbrev pub goes_on : ℕ → Event → Running → Running
goes_on i e r = going_on i e (step e r.world) r

abbrev pub with_actor : ℕ → Actor → Running → Running
with_actor i a r = record r { actors = at_node r.actors i a }

-- the next statement of a node is taken
abbrev pub makes_call : ℕ → Statement → Call → Running → Running
makes_call i s c r =
    if is_change s then (if is_allowed (verdict (r.world.nodes i) c)
    then with_actor i (after_change s (r.actors i)) r
    else goes_on i (event.Call i c) r)
    else goes_on i (event.Call i c) r

abbrev pub takes_statement : ℕ → List Statement → Running → Running
takes_statement i [] r = r
takes_statement i (s ∷ left) r = makes_call i s (call_of (r.world.nodes i) (r.actors i) s) (with_actor i (record (r.actors i) { left = left }) r)

unfoldable pub takes_choice : Choice → Running → Running
takes_choice (choice.Statement i) r = takes_statement i (r.actors i).left r
takes_choice (choice.Collect i) r = goes_on i (event.Collect i) r
takes_choice (choice.Handle i place) r = goes_on i (event.Handle i place) r
takes_choice (choice.Carry i place) r = goes_on i (event.Carry i place) r

-- One turn: of the choices the one at the place that the word gives. Without a choice nothing happens.
abbrev pub takes_choice_at : ℕ → List Choice → Running → Running
takes_choice_at word [] r = r
takes_choice_at word (c ∷ cs) r = takes_choice (slice_index_or (c ∷ cs) (word % length (c ∷ cs)) c) r

abbrev pub turn : ℕ → Running → Running
turn word r = takes_choice_at word (choices r) r

-- So many turns, by the words of the order from the p-th on.
abbrev pub turns_from : (ℕ → ℕ) → ℕ → ℕ → Running → Running
turns_from words p zero r = r
turns_from words p (suc k) r = turns_from words (p + 1) k (turn (words p) r)

-- The run that the script and the order choose ends so: some number of turns leads to it, and no choice is left.
pub record IsChosen (count capacity : ℕ) (blocks : List (List Statement)) (words : ℕ → ℕ) (end : Running) : Type 0 where
  pub turns : ℕ
  pub reached : end ≡ turns_from words 1 turns (running count capacity blocks)
  pub finished : choices end ≡ []

-- The orders: always the first choice; the values of a list, and then the first choice.
abbrev pub always_first : ℕ → ℕ
always_first p = 0

abbrev pub pick_at : List ℕ → ℕ → ℕ
pick_at values zero = 0
pick_at values (suc p) = slice_index_or values p 0
