-- What is seen of a world.
use Rattle.std.specs.Prelude.{ℕ, List}

-- its nodes by number, how many events there were, and for how many names each node's cache has room
pub record Members (N : Type 0) : Type 0 where
  pub nodes : List N
  pub events : ℕ
  pub capacity : ℕ
