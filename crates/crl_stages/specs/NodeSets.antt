-- Sets of nodes, as the bits of a number.
use Rattle.std.specs.Prelude.{ℕ, ◌==◌, Bool}
use Rattle.std.specs.Int.{bit_at}

-- the node is in the set
abbrev pub has_node : ℕ → ℕ → Bool
has_node set n = bit_at set n == 1
