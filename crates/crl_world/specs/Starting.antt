-- Why a world isn't made.
use Rattle.std.specs.Prelude.{◌≡◌, ℕ, ◌<◌, ◌≤◌, ◌⊎◌}
use Rattle.crl_protocol.specs.World.{World, new_world}
use Rattle.crl_world.specs.declared.faults.StartFault.{StartFault}
use Rattle.crl_world.specs.declared.faults.StartFault.TheVariants.{BadNodes, OutOfMemory}

-- there are to be 1 to 64 nodes
pub record AreSomeNodes (nodes : ℕ) : Type 0 where
  pub some : 0 < nodes
  pub few : nodes ≤ 64

pub record IsStarted (nodes capacity : ℕ) (w : World) : Type 0 where
  pub count : AreSomeNodes nodes
  pub world : w ≡ new_world nodes capacity

abbrev pub IsNotStarted : ℕ → StartFault → Type 0
IsNotStarted nodes BadNodes = (nodes ≡ 0) ⊎ (64 < nodes)
IsNotStarted nodes OutOfMemory = AreSomeNodes nodes
