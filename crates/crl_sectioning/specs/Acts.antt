-- What the acts about sections require and leave.
use Rattle.std.specs.Prelude.{◌≡◌, ℕ, ◌+◌, ◌<◌, ◌^◌, false, [], ◌∷◌, ◌++◌, length}
use Rattle.std.specs.declared.option.Option.TheVariants.{None}
use Rattle.crl_model.specs.declared.name.Name.{Name}
use Rattle.crl_model.specs.declared.entry.What.{What}
use Rattle.crl_pieces.specs.Pieces.{count}
use Rattle.crl_protocol.specs.Home.{Home}
use Rattle.crl_protocol.specs.Node.{Node, home_of, is_mine, entry_of}
use Rattle.crl_protocol.specs.World.{records_of}
use Rattle.crl_desk.specs.declared.desk.Desk.{Desk}
use Rattle.crl_desk.specs.Desks.{HasRoom, size_at}

-- the node, with this entry of its own recorded at a position
abbrev pub with_entry : ℕ → What → Node → Node
with_entry position what n = record n { records = n.records ++ records_of position (entry_of n.me what ∷ []) }

-- A flush of the region may come, with these sheets.
pub record IsFlushReady (name : Name) (paper : ℕ) (d : Desk) : Type 0 where
  pub room : HasRoom (count (size_at name d)) 1 1 d
  pub sheets : paper ≡ size_at name d

-- the region has its home here, or isn't here
abbrev pub SendsNothing : Name → Node → Type 0
SendsNothing name n = is_mine n name ≡ false → n.remotes name ≡ None

-- the region isn't here
abbrev pub IsNotHere : Name → Node → Type 0
IsNotHere name n = (home_of n name ≡ None) × (n.remotes name ≡ None)

-- one grant for each ask that waits fits a word
abbrev pub HasVersions : Home → Type 0
HasVersions h = h.last + length h.queue < 2 ^ 64
