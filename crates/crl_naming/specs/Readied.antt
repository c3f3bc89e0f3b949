-- What is readied for an act about a name.
use Rattle.std.specs.Prelude.{ℕ, ◌<◌, ◌≡◌}
use Rattle.crl_model.specs.declared.name.Name.{Name}
use Rattle.crl_model.specs.declared.call.Call.{Call}
use Rattle.crl_model.specs.declared.call.Call.TheVariants as call
use Rattle.crl_table.specs.Tables.{HasPlace}
use Rattle.crl_protocol.specs.Home.{Home, new_home}
use Rattle.crl_desk.specs.declared.desk.Desk.{Desk}
use Rattle.crl_desk.specs.Desks.{HasRoom}

-- there is a place for one more serial
pub record HasSerial (d : Desk) : Type 0 where
  pub home : 0 < d.homes.spare
  pub stage : 0 < d.stages.spare

-- for a create of a region of this size: its table, a place for its serial, and room for its entry and note
pub record CreateIsReady (size : ℕ) (home : Home) (d : Desk) : Type 0 where
  pub table : home ≡ new_home d.nodes size
  pub serial : HasSerial d
  pub room : HasRoom 0 1 1 d

-- a refused create uses a serial
abbrev pub HasSerialFor : Call → Desk → Type 0
HasSerialFor (call.Create size) d = HasSerial d
HasSerialFor (call.Delete name) d = Unit {0}
HasSerialFor (call.Map name) d = Unit {0}
HasSerialFor (call.Unmap name) d = Unit {0}
HasSerialFor (call.StartRead name) d = Unit {0}
HasSerialFor (call.EndRead name) d = Unit {0}
HasSerialFor (call.StartWrite name) d = Unit {0}
HasSerialFor (call.EndWrite name after) d = Unit {0}
HasSerialFor (call.Put name offset len) d = Unit {0}
HasSerialFor (call.Add name offset) d = Unit {0}
HasSerialFor (call.Flush name) d = Unit {0}
HasSerialFor (call.Come part) d = Unit {0}

-- for a refusal of this call
pub record RefuseIsReady (c : Call) (d : Desk) : Type 0 where
  pub serial : HasSerialFor c d
  pub room : HasRoom 0 1 1 d

-- for a map of the name
pub record MapIsReady (name : Name) (d : Desk) : Type 0 where
  pub place : HasPlace name d.maps
  pub room : HasRoom 1 1 1 d

-- for the answer to a map of the name
pub record InfoIsReady (name : Name) (d : Desk) : Type 0 where
  pub map_place : HasPlace name d.maps
  pub remote_place : HasPlace name d.remotes.rows
  pub room : HasRoom 0 0 1 d
