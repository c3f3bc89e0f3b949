-- What closing answers.
use Rattle.std.specs.Prelude.{◌≡◌, ℕ, List, length, slice_get, Some}
use Rattle.crl_model.specs.declared.event.Event.{Event}
use Rattle.crl_protocol.specs.Talk.{Heard}
use Rattle.crl_protocol.specs.World as protocol
use Rattle.crl_turns.specs.declared.turned.Shape.{Shape}
use Rattle.crl_turns.specs.declared.view.View.{View}
use Rattle.crl_turns.specs.declared.faults.CloseWhy.{CloseWhy}
use Rattle.crl_turns.specs.declared.faults.CloseWhy.TheVariants.{OutOfMemory, Busy}
use Rattle.crl_turns.specs.Closing.{GotNone}
use Rattle.crl_turns.specs.Fronts.{Begins}
use Rattle.crl_cluster.specs.Standing.{world_at, heard_at, MayCome}

-- The world is the one after a run that begins with the front of the pass, and each luggage stands for what its node heard
-- in it.
pub record IsClosed {T : Type 0} (stands : ℕ → List Heard → T → Type 0) (s : Shape) (view : View) (world : protocol.World) (luggage : List T)
    : Type 0 where
  pub history : List Event
  pub run : protocol.IsRun s.parts s.extra history
  pub begins : Begins view.front history
  pub world_is : world ≡ world_at s history
  pub many : length luggage ≡ s.parts
  pub each : (i : ℕ) (own : T) → slice_get luggage i ≡ Some own → stands i (heard_at s i history) own

-- The pass has tried the turns in order, up to one that was out, and has given the others back; or it has done nothing.
abbrev pub IsNotClosed : Shape → View → CloseWhy → View → Type 0
IsNotClosed s old OutOfMemory new = new ≡ old
IsNotClosed s old (Busy node) new = GotNone (MayCome s) s.parts old node new
