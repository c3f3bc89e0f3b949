-- What a reader of an account has before it.
use Rattle.std.specs.Prelude.{ℕ, List}
use Rattle.crl_account.specs.declared.line.Stage.{Stage}

-- the bytes that weren't read, how many lines stood before them, and where the last of these stands
pub record Unread : Type 0 where
  pub bytes : List ℕ
  pub number : ℕ
  pub stage : Stage
