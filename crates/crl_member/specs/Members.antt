-- What an event of a node leaves of it, and what is read of it at the end.
use Rattle.std.specs.Prelude.{◌≡◌, ℕ, if◌then◌else◌, List, []}
use Rattle.std.specs.declared.option.Option.{Option}
use Rattle.std.specs.declared.option.Option.TheVariants.{None, Some}
use Rattle.crl_model.specs.declared.name.Name.{Name}
use Rattle.crl_model.specs.declared.call.Call.{Call}
use Rattle.crl_model.specs.declared.call.Call.TheVariants as call
use Rattle.crl_model.specs.declared.event.Event.{Event}
use Rattle.crl_model.specs.declared.event.Event.TheVariants as event
use Rattle.crl_model.specs.Stages.{is_there}
use Rattle.crl_protocol.specs.Parcels.{Piece}
use Rattle.crl_protocol.specs.Places.{Taken, take_out}
use Rattle.crl_protocol.specs.Home.{Home}
use Rattle.crl_protocol.specs.Sections.{Guard}
use Rattle.crl_protocol.specs.Node.{Node, Answer, Activity, Free, Waiting, Ready, Awaited, home_of, lifetime_of}
use Rattle.crl_protocol.specs.Verdict.{verdict}
use Rattle.crl_protocol.specs.Calls.{node_calls}
use Rattle.crl_protocol.specs.Receiving.{receives}
use Rattle.crl_protocol.specs.World.{commits, noted_call, collects, note, put_in}
use Rattle.crl_safety.specs.Safety.{PieceIsSafe}
use Rattle.crl_wire.specs.Frame.{IsInTable}

-- what the node waits for
abbrev pub awaited_of : Activity → Option Awaited
awaited_of Free = None
awaited_of (Waiting awaited) = Some awaited
awaited_of (Ready answer) = None

-- A call at its position: the node after it, and the answer.
abbrev pub node_after_call : ℕ → Call → Node → Node
node_after_call at c n = commits at (event.Call n.me (noted_call (verdict n c) c)) (node_calls c n)

pub record CallIsDone (at : ℕ) (c : Call) (old new : Node) (given : Answer) : Type 0 where
  pub node : new ≡ node_after_call at c old
  pub answer : given ≡ (node_calls c old).answer

-- want of memory: the call is handed back
pub record CallIsBack (c given : Call) (old new : Node) : Type 0 where
  pub call : given ≡ c
  pub node : new ≡ old

-- The end of a section. Its bytes stand in its entry, and aren't noted.
abbrev pub node_after_read : ℕ → Guard → Node → Node
node_after_read at g n = commits at (event.Call n.me (call.EndRead g.name)) (node_calls (call.EndRead g.name) n)

abbrev pub node_after_write : ℕ → Guard → Node → Node
node_after_write at g n = commits at (event.Call n.me (call.EndWrite g.name [])) (node_calls (call.EndWrite g.name g.bytes) n)

-- the answer is taken
pub record CollectIsDone (at : ℕ) (old new : Node) (given : Answer) : Type 0 where
  pub node : new ≡ commits at (event.Collect old.me) (collects old.activity old)
  pub answer : given ≡ (collects old.activity old).answer

-- The piece at a place of the inbox is handled.
abbrev pub TakenIsSafe : Node → Option (Taken Piece) → Type 0
TakenIsSafe n None = Unit {0}
TakenIsSafe n (Some t) = PieceIsSafe n t.taken

abbrev pub after_taken : ℕ → Event → Option (Taken Piece) → Node → Node
after_taken at e None n = n
after_taken at e (Some t) n = commits at e (receives t.taken (record n { inbox = t.rest }))

abbrev pub node_after_handle : ℕ → ℕ → Node → Node
node_after_handle at place n = after_taken at (event.Handle n.me place) (take_out place n.inbox) n

-- The piece at a place of the outbox is carried: its sender, and its addressee.
abbrev pub after_sent : ℕ → Event → Option (Taken Piece) → Node → Node
after_sent at e None n = n
after_sent at e (Some t) n = note at e (record n { outbox = t.rest })

abbrev pub after_put : Option (Taken Piece) → Node → Node
after_put None n = n
after_put (Some t) n = put_in t.taken n

pub record CarryIsDone (at place : ℕ) (from to from' to' : Node) : Type 0 where
  pub sender : from' ≡ after_sent at (event.Carry from.me place) (take_out place from.outbox) from
  pub addressee : to' ≡ after_put (take_out place from.outbox) to

-- it is one of the table of frames
abbrev pub TakenIsInTable : Option (Taken Piece) → Type 0
TakenIsInTable None = Unit {0}
TakenIsInTable (Some t) = IsInTable t.taken

-- it is what was read of its frame
abbrev pub HasCome : Piece → Option (Taken Piece) → Type 0
HasCome came None = ⊥
HasCome came (Some t) = came ≡ t.taken

abbrev pub addressee_of : Option (Taken Piece) → ℕ
addressee_of None = 0
addressee_of (Some t) = t.taken.message.addressee

-- the bytes that the home has of a region that is there
abbrev pub bytes_of_home : Option Home → Option (List ℕ)
bytes_of_home None = None
bytes_of_home (Some h) = Some h.bytes

abbrev pub bytes_at_home : Name → Node → Option (List ℕ)
bytes_at_home name n = if is_there (lifetime_of n name).stage then bytes_of_home (home_of n name) else None
