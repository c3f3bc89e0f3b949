-- What is seen of a node's place in its script.
use Rattle.std.specs.Prelude.{ℕ, List}
use Rattle.crl_talk.specs.Guards.{Given}

-- how many statements it took, the guards that it holds, the newest first, and for how many more there is room
pub record PlayerState : Type 0 where
  pub place : ℕ
  pub guards : List Given
  pub room : ℕ
