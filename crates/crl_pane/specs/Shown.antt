-- What is seen of a shelf.
use Rattle.std.specs.Prelude.{ℕ, Bool, List}

-- the bytes of its pane, and whether a share of the pane is laid by
pub record Shown : Type 0 where
  pub bytes : List ℕ
  pub is_ready : Bool
