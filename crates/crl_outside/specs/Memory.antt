-- What sources and sinks over memory are seen as.
use Rattle.std.specs.Prelude.{ℕ, List}

-- a source that gives up to `step` bytes a pull and fails at the pulls, counted from 1, that are listed
pub record Giving : Type 0 where
  pub left : List ℕ
  pub step : ℕ
  pub failing : List ℕ
  pub calls : ℕ
  pub faults : ℕ

-- a sink that takes up to `room` bytes in all
pub record Taking : Type 0 where
  pub held : List ℕ
  pub room : ℕ
  pub faults : ℕ
