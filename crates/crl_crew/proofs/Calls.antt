-- What a statement leads to: a change of the drafts, or a call for it.
use Rattle.std.proofs.Common.{◌≡◌, refl, ◌&&◌, true, None, List}
use Rattle.crl_model.specs.declared.statement.Statement.{Statement}
use Rattle.crl_model.specs.declared.statement.Statement.TheVariants as statement
use Rattle.crl_protocol.specs.Node.{Node, Answer, Made, Mapped, Reading, Writing, Done, Came, Refused, Wait}
use Rattle.crl_protocol.specs.Verdict.{verdict}
use Rattle.crl_protocol.specs.Chosen.{Actor, call_of, is_change, is_allowed, after_change, takes_guard}
use Rattle.crl_talk.specs.Script.{Drafts, drafts_given, Changes, puts, adds}
use Rattle.crl_run.specs.Actors.{asked_call}
use Rattle.crl_deeds.proofs.Laws.{allowed}

-- An allowed change, and the drafts after it.
pub record IsChange (n : Node) (a : Actor) (s : Statement) : Type 0 where
  pub is : is_change s ≡ true
  pub changes : Changes a.drafts s (asked_call s) (after_change s a).drafts
  pub allowed : verdict n (asked_call s) ≡ None

pub change_of : (n : Node) (a : Actor) (s : Statement) → (is_change s && is_allowed (verdict n (call_of n a s))) ≡ true → IsChange n a s
change_of n a (statement.Call c) h = cc
change_of n a (statement.Put name offset bytes) h = record { is = refl; changes = puts name offset bytes; allowed = allowed _ h }
change_of n a (statement.Add name offset number) h = record { is = refl; changes = adds name offset number; allowed = allowed _ h }

-- what an answer gives
pub given_actor : (answer : Answer) (l : List Statement) (d : Drafts) → takes_guard answer (record { left = l; drafts = d }) ≡ record { left = l; drafts = drafts_given answer d }
given_actor (Writing guard) l d = refl
given_actor (Made name) l d = refl
given_actor (Mapped name size) l d = refl
given_actor (Reading guard) l d = refl
given_actor Done l d = refl
given_actor (Came round fold) l d = refl
given_actor (Refused why) l d = refl
given_actor Wait l d = refl
