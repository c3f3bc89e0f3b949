-- What is seen of the words of a seed.
use Rattle.std.specs.Prelude.{ℕ}

-- the seed, and how many words it gave
pub record WordsGiven : Type 0 where
  pub seed : ℕ
  pub given : ℕ
