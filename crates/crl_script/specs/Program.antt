-- What a script says, without where it lies in memory.
use Rattle.std.specs.Prelude.{ℕ, List}
use Rattle.crl_model.specs.declared.statement.Statement.{Statement}
use Rattle.crl_script.specs.declared.fault.ScriptWhy.{ScriptWhy}

-- how many nodes there are, how many copies a node keeps, and for each node its statements, in order
pub record Program : Type 0 where
  pub nodes : ℕ
  pub cache : ℕ
  pub blocks : List (List Statement)

-- a line, counted from 1 (0 for the whole text), and what is wrong with it
pub record Fault : Type 0 where
  pub line : ℕ
  pub why : ScriptWhy
