-- Lists of statements that can be run.
use Rattle.std.specs.Prelude.{◌≡◌, ℕ, ◌<◌, ◌^◌, List, length}
use Rattle.std.specs.List.{All}
use Rattle.crl_model.specs.declared.statement.Statement.{Statement}
use Rattle.crl_deeds.specs.Laws.{IsStatement}
use Rattle.crl_run.specs.Acting.{IsShort}

pub record IsPlain (s : Statement) : Type 0 where
  pub statement : IsStatement s
  pub short : IsShort s

pub record IsBlock (block : List Statement) : Type 0 where
  pub plain : All IsPlain block
  pub few : length block < 2 ^ 20

-- such a list for each node
pub record AreBlocks (nodes : ℕ) (blocks : List (List Statement)) : Type 0 where
  pub number : length blocks ≡ nodes
  pub each : All IsBlock blocks
