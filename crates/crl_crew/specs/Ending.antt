-- What the workers leave.
use Rattle.std.specs.Prelude.{◌≡◌, ℕ, List, length, slice_get, Some}
use Rattle.crl_model.specs.declared.event.Event.{Event}
use Rattle.crl_model.specs.declared.statement.Statement.{Statement}
use Rattle.crl_protocol.specs.Talk.{Heard}
use Rattle.crl_protocol.specs.World.{World, IsRun}
use Rattle.crl_protocol.specs.Chosen.{block_of}
use Rattle.crl_turns.specs.declared.turned.Shape.{Shape}
use Rattle.crl_cluster.specs.Standing.{world_at, heard_at}
use Rattle.crl_crew.specs.declared.place.Place.{Place}
use Rattle.crl_crew.specs.Standing.{StandsAt}

-- The world is the one after a run, and each luggage stands for what its node heard in it.
pub record IsEnd {T : Type 0} (stands : ℕ → List Heard → T → Type 0) (s : Shape) (world : World) (luggage : List T) : Type 0 where
  pub history : List Event
  pub run : IsRun s.parts s.extra history
  pub world_is : world ≡ world_at s history
  pub many : length luggage ≡ s.parts
  pub each : (i : ℕ) (own : T) → slice_get luggage i ≡ Some own → stands i (heard_at s i history) own

-- as the luggage of workers of this script stands for what its node heard
abbrev pub places_stand : {S : Type 0} → List (List Statement) → ℕ → List Heard → Place S → Type 0
places_stand blocks i heard place = StandsAt i (block_of blocks i) heard place.player
