-- What an event that was asked for leaves of the world.
use Rattle.std.specs.Prelude.{◌≡◌, ◌≢◌, ℕ, ◌<◌, ◌^◌, nat_lt, Bool, true, false, ◌&&◌, List, slice_set}
use Rattle.std.specs.declared.option.Option.{Option}
use Rattle.std.specs.declared.option.Option.TheVariants.{None, Some}
use Rattle.crl_model.specs.declared.call.Call.{Call}
use Rattle.crl_model.specs.declared.call.Call.TheVariants as call
use Rattle.crl_model.specs.declared.event.Event.{Event}
use Rattle.crl_model.specs.declared.event.Event.TheVariants as event
use Rattle.crl_protocol.specs.Parcels.{Piece}
use Rattle.crl_protocol.specs.Places.{Taken, take_out}
use Rattle.crl_protocol.specs.Sections.{Guard}
use Rattle.crl_protocol.specs.Node.{Node, Answer}
use Rattle.crl_protocol.specs.Verdict.{verdict}
use Rattle.crl_protocol.specs.World.{World, step, is_free}
use Rattle.crl_member.specs.Fitting.{fits_reading, fits_writing}
use Rattle.crl_member.specs.Members.{after_sent, after_put}
use Rattle.crl_world.specs.Seen.{node_at}
use Rattle.crl_world.specs.declared.faults.CallFault.{CallFault}
use Rattle.crl_world.specs.declared.faults.CallFault.TheVariants as call_fault
use Rattle.crl_world.specs.declared.faults.EndFault.{EndFault}
use Rattle.crl_world.specs.declared.faults.EndFault.TheVariants as end_fault
use Rattle.crl_world.specs.declared.faults.StepFault.{StepFault}
use Rattle.crl_world.specs.declared.faults.StepFault.TheVariants as step_fault

-- The event is done: there was room for it, and the world and the answer are those of its step.
pub record StepIsDone (e : Event) (w v : World) (given : Answer) : Type 0 where
  pub room : w.events < 2 ^ 62
  pub world : v ≡ (step e w).world
  pub answer : given ≡ (step e w).answer

-- an event without an answer
pub record EventIsDone (e : Event) (w v : World) : Type 0 where
  pub room : w.events < 2 ^ 62
  pub world : v ≡ (step e w).world

-- The event is not done: the world is as it was, and what was given is handed back.
pub record IsRefusedAsSpent (w v : World) : Type 0 where
  pub spent : w.events ≡ 2 ^ 62
  pub world : v ≡ w

pub record IsRefusedForMemory (w v : World) : Type 0 where
  pub room : w.events < 2 ^ 62
  pub world : v ≡ w

abbrev pub CallIsUndone : Call → World → World → CallFault → Type 0
CallIsUndone c w v (call_fault.Spent back) = (back ≡ c) × IsRefusedAsSpent w v
CallIsUndone c w v (call_fault.OutOfMemory back) = (back ≡ c) × IsRefusedForMemory w v

abbrev pub StepIsUndone : World → World → StepFault → Type 0
StepIsUndone w v step_fault.Spent = IsRefusedAsSpent w v
StepIsUndone w v step_fault.OutOfMemory = IsRefusedForMemory w v

-- The guard is of a section that is open in the world.
abbrev pub reading_fits : Guard → World → Bool
reading_fits g w = nat_lt g.node w.count && fits_reading (w.nodes g.node) g

abbrev pub writing_fits : Guard → World → Bool
writing_fits g w = nat_lt g.node w.count && fits_writing (w.nodes g.node) g

-- its node may end the section
pub record MayEnd (g : Guard) (c : Call) (w : World) : Type 0 where
  pub free : is_free (w.nodes g.node).activity ≡ true
  pub allowed : verdict (w.nodes g.node) c ≡ None

-- the ends that guards stand for
abbrev pub end_of_reading : Guard → Call
end_of_reading g = call.EndRead g.name

abbrev pub end_of_writing : Guard → Call
end_of_writing g = call.EndWrite g.name g.bytes

pub record EndIsDone (fits : Bool) (g : Guard) (c : Call) (w v : World) : Type 0 where
  pub fit : fits ≡ true
  pub room : w.events < 2 ^ 62
  pub world : v ≡ (step (event.Call g.node c) w).world

abbrev pub EndIsUndone : Bool → Guard → World → World → EndFault Guard → Type 0
EndIsUndone fits g w v (end_fault.Foreign back) = (fits ≡ false) × (back ≡ g) × (v ≡ w)
EndIsUndone fits g w v (end_fault.Spent back) = (fits ≡ true) × (back ≡ g) × IsRefusedAsSpent w v

-- a piece that is carried goes to another node of the world
abbrev pub GoesElsewhere : ℕ → ℕ → Option (Taken Piece) → Type 0
GoesElsewhere i count None = Unit {0}
GoesElsewhere i count (Some t) = (t.taken.message.addressee < count) × (t.taken.message.addressee ≢ i)

-- the nodes, when the piece at a place of one's outbox has gone to another
abbrev pub nodes_after_sent : ℕ → ℕ → ℕ → Event → Option (Taken Piece) → List Node → List Node
nodes_after_sent at i j e o ns = slice_set (slice_set ns i (after_sent at e o (node_at i ns))) j (after_put o (node_at j ns))

abbrev pub nodes_after_carry : ℕ → ℕ → ℕ → ℕ → List Node → List Node
nodes_after_carry at i j place ns = nodes_after_sent at i j (event.Carry (node_at i ns).me place) (take_out place (node_at i ns).outbox) ns
