-- The turns of a world: what each event does, by the deed of its node. And what holds of each node by itself and of each
-- message, said of a world.
use Rattle.std.specs.Prelude.{◌≡◌, ℕ, ◌<◌, true, List, []}
use Rattle.std.specs.declared.option.Option.TheVariants.{Some}
use Rattle.std.specs.List.{AllByRecursion}
use Rattle.crl_model.specs.declared.call.Call.{Call}
use Rattle.crl_model.specs.declared.event.Event.{Event}
use Rattle.crl_model.specs.declared.event.Event.TheVariants as event
use Rattle.crl_model.specs.declared.message.Message.{Message}
use Rattle.crl_protocol.specs.Parcels.{Piece, with_load, Key, key_of, PartsGathered}
use Rattle.crl_protocol.specs.Places.{Took}
use Rattle.crl_protocol.specs.Node.{Node, Recorded, Note, Answer, Done, Free, Ready, Outcome, only}
use Rattle.crl_protocol.specs.Verdict.{verdict}
use Rattle.crl_protocol.specs.World.{World, WorldStep, is_call, noted_call, carries, steps_node}
use Rattle.crl_deeds.specs.Deeds.{FreeIf, Cause, Calls, Hears, Deed}
use Rattle.crl_deeds.specs.NodeFacts.{Leaves, Fits}

-- a call of a node, as it is noted: with what it came to
abbrev pub noted_as : World → ℕ → Call → Event
noted_as w i c = event.Call i (noted_call (verdict (w.nodes i) c) c)

-- What an event is: a call of a free node; a piece that comes, which makes a message whole or is only kept; an answer that
-- is taken; or a piece that is carried. A call is noted with what it came to.
pub data Turn (w : World) : Event → WorldStep → Type 0 where
  calls : (i : ℕ) (c : Call) (o : Outcome) → i < w.count → (w.nodes i).activity ≡ Free → is_call (w.nodes i) c (verdict (w.nodes i) c) ≡ true → Deed (w.nodes i) (Calls c) o
      → Turn w (event.Call i c) (steps_node i (noted_as w i c) o w)
  hears : (i place : ℕ) (p : Piece) (rest : List Piece) (parcels : PartsGathered) (part : List ℕ) (o : Outcome) → i < w.count → Took p (w.nodes i).inbox rest
      → Deed (record (w.nodes i) { inbox = rest; parcels = parcels }) (Hears p.message.sender (with_load part p.message.kind)) o → Turn w (event.Handle i place) (steps_node i (event.Handle i place) o w)
  gathers : (i place : ℕ) (p : Piece) (rest : List Piece) (parcels : PartsGathered) (key : Key) → i < w.count → Took p (w.nodes i).inbox rest → key_of p.message ≡ Some key
      → Turn w (event.Handle i place) (steps_node i (event.Handle i place) (only (record (w.nodes i) { inbox = rest; parcels = parcels }) Done) w)
  answers : (i : ℕ) (answer : Answer) → i < w.count → (w.nodes i).activity ≡ Ready answer
      → Turn w (event.Collect i) (steps_node i (event.Collect i) (record { node = record (w.nodes i) { activity = Free }; answer = answer; entries = []; posts = [] }) w)
  carriage : (i place : ℕ) (p : Piece) (rest : List Piece) → i < w.count → Took p (w.nodes i).outbox rest
      → Turn w (event.Carry i place) (carries i (event.Carry i place) (Some (record { taken = p; rest = rest })) w)

-- What a deed leaves alone.
pub record Frame (n m : Node) : Type 0 where
  pub me : m.me ≡ n.me
  pub nodes : m.nodes ≡ n.nodes
  pub capacity : m.capacity ≡ n.capacity
  pub inbox : m.inbox ≡ n.inbox
  pub outbox : m.outbox ≡ n.outbox
  pub parcels : m.parcels ≡ n.parcels

-- What holds of each node by itself and of each message, whatever part of its bytes it has: after every deed, and
-- wherever the boxes and lists differ.
abbrev pub Came : (Message → Type 0) → ℕ → Cause → Type 0
Came Q i (Calls c) = Unit {0}
Came Q i (Hears from k) = Q (record { sender = from; addressee = i; kind = k })

abbrev pub Parts : (Message → Type 0) → Type 0
Parts Q = (m : Message) (part : List ℕ) → Q m → Q (record m { kind = with_load part m.kind })

pub record Local (count : ℕ) (P : ℕ → Node → Type 0) (Q : Message → Type 0) : Type 0 where
  pub deed : (i : ℕ) (n : Node) (cause : Cause) (o : Outcome) → i < count → Deed n cause o → Came Q i cause → P i n → P i o.node × AllByRecursion Q o.posts
  pub boxes : (i : ℕ) (n : Node) (inbox outbox : List Piece) (parcels : PartsGathered) (records : List Recorded) (notes : List Note) (posted : ℕ) → P i n
      → P i (record n { inbox = inbox; outbox = outbox; parcels = parcels; records = records; notes = notes; posted = posted })
  pub answered : (i : ℕ) (n : Node) (answer : Answer) → n.activity ≡ Ready answer → P i n → P i (record n { activity = Free })
  pub parts : Parts Q

abbrev pub HeldIn : (Message → Type 0) → ℕ → Piece → Type 0
HeldIn Q i p = Q p.message × (p.message.addressee ≡ i)

abbrev pub HeldOut : (Message → Type 0) → Piece → Type 0
HeldOut Q p = Q p.message

pub record HeldAt (P : ℕ → Node → Type 0) (Q : Message → Type 0) (i : ℕ) (n : Node) : Type 0 where
  pub node : P i n
  pub inbox : AllByRecursion (HeldIn Q i) n.inbox
  pub outbox : AllByRecursion (HeldOut Q) n.outbox

abbrev pub Held : (ℕ → Node → Type 0) → (Message → Type 0) → World → Type 0
Held P Q w = (i : ℕ) → HeldAt P Q i (w.nodes i)

-- What holds of each node by itself, where a deed is known to be of a node that fits.
pub record Kept (P : Node → Type 0) : Type 0 where
  pub deed : (j : ℕ) (n : Node) (cause : Cause) (o : Outcome) → Deed n cause o → Fits j n → Came Leaves n.me cause → FreeIf cause n → P n → P o.node
  pub boxes : (n : Node) (inbox outbox : List Piece) (parcels : PartsGathered) (records : List Recorded) (notes : List Note) (posted : ℕ) → P n
      → P (record n { inbox = inbox; outbox = outbox; parcels = parcels; records = records; notes = notes; posted = posted })
  pub answered : (n : Node) (answer : Answer) → n.activity ≡ Ready answer → P n → P (record n { activity = Free })
