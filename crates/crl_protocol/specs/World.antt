-- All nodes with their boxes: which events may come, and what each of them does.
use Rattle.std.specs.Prelude.{◌≡◌, ℕ, zero, suc, ◌+◌, ◌^◌, ◌≤◌, ◌==◌, nat_lt, Bool, true, false, ◌&&◌, List, [], ◌∷◌, ◌++◌, length, map}
use Rattle.std.specs.declared.option.Option.{Option}
use Rattle.std.specs.declared.option.Option.TheVariants.{None, Some}
use Rattle.crl_model.specs.declared.call.Call.{Call}
use Rattle.crl_model.specs.declared.call.Call.TheVariants as call
use Rattle.crl_model.specs.declared.call.Refusal.{Refusal}
use Rattle.crl_model.specs.declared.entry.Entry.{Entry}
use Rattle.crl_model.specs.declared.event.Event.{Event}
use Rattle.crl_model.specs.declared.event.Event.TheVariants as event
use Rattle.crl_model.specs.Names.{at_node}
use Rattle.crl_protocol.specs.Parcels.{Piece, pieces_in}
use Rattle.crl_protocol.specs.Places.{Taken, take_out}
use Rattle.crl_protocol.specs.Sections.{bytes_at}
use Rattle.crl_protocol.specs.Node.{Node, new_node, Recorded, Answer, Done, Activity, Free, Waiting, Ready, Outcome, only}
use Rattle.crl_protocol.specs.Verdict.{verdict}
use Rattle.crl_protocol.specs.Calls.{node_calls}
use Rattle.crl_protocol.specs.Receiving.{receives}

-- the nodes, and how many events there were
pub record World : Type 0 where
  pub count : ℕ
  pub nodes : ℕ → Node
  pub events : ℕ

abbrev pub new_world : ℕ → ℕ → World
new_world count capacity = record { count = count; nodes = new_node count capacity; events = 0 }

abbrev pub with_node : ℕ → Node → World → World
with_node i n w = record w { nodes = at_node w.nodes i n }

-- An event as a node notes it. The bytes of a write section that ended stand in its entry.
abbrev pub without_bytes : Call → Call
without_bytes (call.EndWrite name after) = call.EndWrite name []
without_bytes c = c

abbrev pub noted_call : Option Refusal → Call → Call
noted_call None c = without_bytes c
noted_call (Some why) c = c

abbrev pub note : ℕ → Event → Node → Node
note position e n = record n { notes = n.notes ++ record { position = position; event = e } ∷ [] }

-- what an event leaves
pub record WorldStep : Type 0 where
  pub world : World
  pub answer : Answer
  pub entries : List Entry

-- The outcome of a node's event at its position: the messages go into the outbox, the entries and the
-- event into the node's lists.
abbrev pub records_of : ℕ → List Entry → List Recorded
records_of position entries = map (λ e. record { position = position; entry = e }) entries

abbrev pub commits : ℕ → Event → Outcome → Node
commits position e o = note position e (record o.node {
  outbox = o.node.outbox ++ pieces_in o.posts;
  records = o.node.records ++ records_of position o.entries;
  posted = o.node.posted + length (pieces_in o.posts);
})

abbrev pub steps_node : ℕ → Event → Outcome → World → WorldStep
steps_node i e o w = record {
  world = record w { nodes = at_node w.nodes i (commits w.events e o); events = w.events + 1 };
  answer = o.answer;
  entries = o.entries;
}

-- nothing happens
abbrev pub stays : World → WorldStep
stays w = record { world = w; answer = Done; entries = [] }

-- The answer is taken for which the node waited.
abbrev pub collects : Activity → Node → Outcome
collects (Ready answer) n = only (record n { activity = Free }) answer
collects Free n = only n Done
collects (Waiting awaited) n = only n Done

-- A message of the inbox is handled.
abbrev pub handles_at : ℕ → Event → Option (Taken Piece) → World → WorldStep
handles_at i e None w = stays w
handles_at i e (Some t) w = steps_node i e (receives t.taken (record (w.nodes i) { inbox = t.rest })) w

-- A message goes from its sender's outbox into its addressee's inbox. The sender notes it.
abbrev pub put_in : Piece → Node → Node
put_in p n = record n { inbox = n.inbox ++ p ∷ [] }

abbrev pub carries_to : Piece → World → World
carries_to p w = with_node p.message.addressee (put_in p (w.nodes p.message.addressee)) w

abbrev pub carries : ℕ → Event → Option (Taken Piece) → World → WorldStep
carries i e None w = stays w
carries i e (Some t) w = record {
  world = record (carries_to t.taken (with_node i (note w.events e (record (w.nodes i) { outbox = t.rest })) w)) { events = w.events + 1 };
  answer = Done;
  entries = [];
}

unfoldable pub step : Event → World → WorldStep
step (event.Call i c) w = steps_node i (event.Call i (noted_call (verdict (w.nodes i) c) c)) (node_calls c (w.nodes i)) w
step (event.Collect i) w = steps_node i (event.Collect i) (collects (w.nodes i).activity (w.nodes i)) w
step (event.Handle i place) w = handles_at i (event.Handle i place) (take_out place (w.nodes i).inbox) w
step (event.Carry i place) w = carries i (event.Carry i place) (take_out place (w.nodes i).outbox) w

-- An event may come: a call of a node that is free, a collect of one that is ready, a message that is there.
-- A change is an event only where it is refused, and a write section leaves as many bytes as it began with.
abbrev pub is_free : Activity → Bool
is_free Free = true
is_free (Waiting awaited) = false
is_free (Ready answer) = false

abbrev pub is_ready : Activity → Bool
is_ready Free = false
is_ready (Waiting awaited) = false
is_ready (Ready answer) = true

abbrev pub is_call : Node → Call → Option Refusal → Bool
is_call n c (Some why) = true
is_call n (call.EndWrite name after) None = length after == length (bytes_at name n.sections)
is_call n (call.Put name offset len) None = false
is_call n (call.Add name offset) None = false
is_call n _ None = true

unfoldable pub is_enabled : Event → World → Bool
is_enabled (event.Call i c) w = nat_lt i w.count && (is_free (w.nodes i).activity && is_call (w.nodes i) c (verdict (w.nodes i) c))
is_enabled (event.Collect i) w = nat_lt i w.count && is_ready (w.nodes i).activity
is_enabled (event.Handle i place) w = nat_lt i w.count && nat_lt place (length (w.nodes i).inbox)
is_enabled (event.Carry i place) w = nat_lt i w.count && nat_lt place (length (w.nodes i).outbox)

-- A run: each event may come after those before it, and there are at most 2^62 of them.
abbrev pub IsRunFrom : World → List Event → Type 0
IsRunFrom w [] = Unit {0}
IsRunFrom w (e ∷ es) = (is_enabled e w ≡ true) × IsRunFrom (step e w).world es

pub record IsRun (count capacity : ℕ) (run : List Event) : Type 0 where
  pub enabled : IsRunFrom (new_world count capacity) run
  pub limit : length run ≤ 2 ^ 62

-- the world after a run, and the run's account: the entries that its events record, in order
abbrev pub world_after : World → List Event → World
world_after w [] = w
world_after w (e ∷ es) = world_after (step e w).world es

abbrev pub account_from : World → List Event → List Entry
account_from w [] = []
account_from w (e ∷ es) = (step e w).entries ++ account_from (step e w).world es

abbrev pub world_of : ℕ → ℕ → List Event → World
world_of count capacity run = world_after (new_world count capacity) run

abbrev pub account : ℕ → ℕ → List Event → List Entry
account count capacity run = account_from (new_world count capacity) run

-- The pieces in the boxes of all nodes, by node, the inbox first.
abbrev pub boxes_from : ℕ → ℕ → (ℕ → Node) → List Piece
boxes_from i zero nodes = []
boxes_from i (suc k) nodes = ((nodes i).inbox ++ (nodes i).outbox) ++ boxes_from (i + 1) k nodes

abbrev pub pieces_in_boxes : World → List Piece
pieces_in_boxes w = boxes_from 0 w.count w.nodes

-- how many messages were sent
abbrev pub messages_sent_from : ℕ → ℕ → (ℕ → Node) → ℕ
messages_sent_from i zero nodes = 0
messages_sent_from i (suc k) nodes = (nodes i).posted + messages_sent_from (i + 1) k nodes

abbrev pub messages_sent : World → ℕ
messages_sent w = messages_sent_from 0 w.count w.nodes
