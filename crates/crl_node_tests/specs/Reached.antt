-- Worlds to which a run leads, and the events that may come in them.
use Rattle.std.specs.Prelude.{◌≡◌, ℕ, Bool, true, false, List, length}
use Rattle.crl_model.specs.declared.call.Call.{Call}
use Rattle.crl_model.specs.declared.call.Call.TheVariants as call
use Rattle.crl_model.specs.declared.choice.Choice.{Choice}
use Rattle.crl_model.specs.declared.choice.Choice.TheVariants as choice
use Rattle.crl_model.specs.declared.event.Event.{Event}
use Rattle.crl_model.specs.declared.event.Event.TheVariants as event
use Rattle.std.specs.declared.option.Option.TheVariants.{None}
use Rattle.crl_protocol.specs.Verdict.{verdict}
use Rattle.crl_protocol.specs.World.{World, new_world, world_of, is_enabled, is_free, IsRunFrom}

pub record IsReached (w : World) : Type 0 where
  pub count : ℕ
  pub capacity : ℕ
  pub run : List Event
  pub enabled : IsRunFrom (new_world count capacity) run
  pub world : w ≡ world_of count capacity run
  pub events : w.events ≡ length run

-- neither the end of a section nor a change
abbrev pub is_made : Call → Bool
is_made (call.EndRead name) = false
is_made (call.EndWrite name after) = false
is_made (call.Put name offset len) = false
is_made (call.Add name offset) = false
is_made _ = true

-- a message of these choices may be handled or carried
abbrev pub MayPass : World → Choice → Type 0
MayPass w (choice.Statement i) = Unit {0}
MayPass w (choice.Collect i) = Unit {0}
MayPass w (choice.Handle i place) = is_enabled (event.Handle i place) w ≡ true
MayPass w (choice.Carry i place) = is_enabled (event.Carry i place) w ≡ true

-- the node is free, and doesn't refuse the call
pub record IsAllowed (i : ℕ) (c : Call) (w : World) : Type 0 where
  pub free : is_free (w.nodes i).activity ≡ true
  pub allowed : verdict (w.nodes i) c ≡ None
