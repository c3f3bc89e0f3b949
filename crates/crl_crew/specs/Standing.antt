-- What a player stands for, by what its node heard alone.
use Rattle.std.specs.Prelude.{ℕ, List, drop}
use Rattle.std.specs.List.{All}
use Rattle.crl_model.specs.declared.statement.Statement.{Statement}
use Rattle.crl_protocol.specs.Talk.{Heard}
use Rattle.crl_deeds.specs.Laws.{IsStatement}
use Rattle.crl_talk.specs.Script.{Drafts}
use Rattle.crl_plays.specs.Plays.{Plays}
use Rattle.crl_run.specs.PlayerState.{PlayerState}
use Rattle.crl_run.specs.Acting.{IsShort}
use Rattle.crl_run.specs.Actors.{IsActor}
use Rattle.crl_run.specs.Hearing.{HoldsHeard}

-- The player of node i, which heard this: the statements before its place gave the node's calls, its guards are those that the
-- node was given, and their bytes are what the changes before its place made of them.
pub record StandsAt (i : ℕ) (statements : List Statement) (heard : List Heard) (p : PlayerState) : Type 0 where
  pub drafts : Drafts
  pub plays : Plays i statements heard (drop p.place statements) drafts
  pub actor : IsActor statements p.place p.guards (record { left = drop p.place statements; drafts = drafts })
  pub holds : HoldsHeard heard p.guards

-- statements as scripts have them
pub record AreTaken (statements : List Statement) : Type 0 where
  pub are : All IsStatement statements
  pub short : All IsShort statements
