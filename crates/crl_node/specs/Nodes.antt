-- What is true of a node between two events.
use Rattle.std.specs.Prelude.{ℕ, ◌≡◌, ◌+◌, ◌-◌, ◌*◌, ◌^◌, ◌<◌, ◌≤◌, length}
use Rattle.crl_model.specs.declared.event.Event.{Event}
use Rattle.crl_model.specs.declared.call.Call.{Call}
use Rattle.crl_protocol.specs.Node.{Node}
use Rattle.crl_protocol.specs.Calls.{node_calls}
use Rattle.crl_protocol.specs.Verdict.{verdict}
use Rattle.crl_protocol.specs.World.{note, noted_call}
use Rattle.crl_desk.specs.declared.desk.Desk.{Desk}
use Rattle.crl_desk.specs.Desks.{state, acted, HasRoom}
use Rattle.crl_node.specs.declared.acting.Acted.{Acted}

-- each event that was noted posted at most so many pieces as fit a word
abbrev pub IsFew : Node → Type 0
IsFew n = n.posted ≤ length n.notes * 2 ^ 64

-- There is room for what is owed, and few pieces were posted.
pub record IsNode (d : Desk) : Type 0 where
  pub room : HasRoom 0 0 0 d
  pub few : IsFew (state d)

-- as many messages were posted, and the same events noted
pub record KeepsCounts (n m : Node) : Type 0 where
  pub posted : m.posted ≡ n.posted
  pub notes : m.notes ≡ n.notes

-- The end of an event: what stands in the outbox behind so many pieces was posted, and the event is noted.
abbrev pub concluded : ℕ → Event → ℕ → Node → Node
concluded position e before m = note position e (record m { posted = m.posted + (length m.outbox - before) })

-- A call before its event is noted: the act is done, with its answer and the call as it is to be noted.
pub record ActIsDone (at : ℕ) (c : Call) (old : Node) (new : Desk) (given : Acted) : Type 0 where
  pub node : state new ≡ acted at (node_calls c old)
  pub answer : given.answer ≡ (node_calls c old).answer
  pub noted : given.noted ≡ noted_call (verdict old c) c
  pub room : HasRoom 0 0 1 new

-- There is room for a note at the one, and for a piece in the inbox of the other.
pub record CanCarry (from to : Desk) : Type 0 where
  pub note : HasRoom 0 0 1 from
  pub place : 0 < to.inbox.room
