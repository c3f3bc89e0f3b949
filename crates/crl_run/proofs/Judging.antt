-- The call that a node makes for a statement is the one on which it was asked for its verdict.
use Rattle.std.proofs.Common.{◌≡◌, ◌∙◌, sym, refl, true, false, Option, Some, None, List, subst}
use Rattle.crl_model.specs.declared.call.Call as calls
use Rattle.crl_model.specs.declared.call.Call.TheVariants as call
use Rattle.crl_model.specs.declared.call.Refusal.{Refusal}
use Rattle.crl_model.specs.declared.statement.Statement.{Statement}
use Rattle.crl_model.specs.declared.statement.Statement.TheVariants as statement
use Rattle.crl_protocol.specs.Node.{Node}
use Rattle.crl_protocol.specs.Verdict.{verdict}
use Rattle.crl_talk.specs.Guards.{Given}
use Rattle.crl_run.specs.declared.act.Act.{Act}
use Rattle.crl_run.specs.declared.act.Act.TheVariants as act
use Rattle.crl_run.specs.Players.{newest, IsOfKind}
use Rattle.crl_run.specs.Acting.{plain_call, CanAct, Acts, guard_spent}
use Rattle.crl_run.specs.Actors.{asked_call}
use Rattle.crl_run.specs.Making.{IsJudged}

-- the bytes of an end make no odds
plain_same : (n : Node) (s : Statement) → verdict n (plain_call s) ≡ verdict n (asked_call s)
unfolding verdict
plain_same n (statement.Call (call.EndWrite name after)) = refl
plain_same n (statement.Call (call.Create size)) = refl
plain_same n (statement.Call (call.Delete name)) = refl
plain_same n (statement.Call (call.Map name)) = refl
plain_same n (statement.Call (call.Unmap name)) = refl
plain_same n (statement.Call (call.StartRead name)) = refl
plain_same n (statement.Call (call.EndRead name)) = refl
plain_same n (statement.Call (call.StartWrite name)) = refl
plain_same n (statement.Call (call.Put name offset len)) = refl
plain_same n (statement.Call (call.Add name offset)) = refl
plain_same n (statement.Call (call.Flush name)) = refl
plain_same n (statement.Call (call.Come part)) = refl
plain_same n (statement.Put name offset bytes) = refl
plain_same n (statement.Add name offset number) = refl

judged_call : (refusal : Option Refusal) (n : Node) (c : calls.Call) (a : Act) → refusal ≡ verdict n c → a ≡ act.Call c → IsJudged refusal n a
judged_call refusal n c a judged is = subst (IsJudged refusal n) (sym is) judged

-- an end that is allowed is no call
judged_end : (refusal : Option Refusal) (n : Node) (write : _) (g : Option Given) (a : Act) → IsOfKind write g → guard_spent a ≡ g → IsJudged refusal n a
judged_end refusal n write g (act.EndRead guard) kind e = tt
judged_end refusal n write g (act.EndWrite guard) kind e = tt
judged_end refusal n write g act.Inside kind e = tt
judged_end refusal n write None (act.Call c) kind e = absurd kind
judged_end refusal n write (Some g) (act.Call c) kind e = absurd (cc)

judged_inside : (refusal : Option Refusal) (n : Node) (a : Act) → a ≡ act.Inside → IsJudged refusal n a
judged_inside refusal n a is = subst (IsJudged refusal n) (sym is) tt

pub acts_judged : (refusal : Option Refusal) (n : Node) (s : Statement) (old new : List Given) (a : Act) → refusal ≡ verdict n (asked_call s) → CanAct refusal s old → Acts refusal s old a new → IsJudged refusal n a
acts_judged (Some why) n s old new a judged can does = judged_call (Some why) n (plain_call s) a (judged ∙ sym (plain_same n s)) does.0
acts_judged None n (statement.Call (call.EndRead name)) old new a judged can does = judged_end None n false (newest name old) a can does.0
acts_judged None n (statement.Call (call.EndWrite name after)) old new a judged can does = judged_end None n true (newest name old) a can does.0
acts_judged None n (statement.Call (call.Create size)) old new a judged can does = judged_call None n _ a judged does.0
acts_judged None n (statement.Call (call.Delete name)) old new a judged can does = judged_call None n _ a judged does.0
acts_judged None n (statement.Call (call.Map name)) old new a judged can does = judged_call None n _ a judged does.0
acts_judged None n (statement.Call (call.Unmap name)) old new a judged can does = judged_call None n _ a judged does.0
acts_judged None n (statement.Call (call.StartRead name)) old new a judged can does = judged_call None n _ a judged does.0
acts_judged None n (statement.Call (call.StartWrite name)) old new a judged can does = judged_call None n _ a judged does.0
acts_judged None n (statement.Call (call.Put name offset len)) old new a judged can does = judged_call None n _ a judged does.0
acts_judged None n (statement.Call (call.Add name offset)) old new a judged can does = judged_call None n _ a judged does.0
acts_judged None n (statement.Call (call.Flush name)) old new a judged can does = judged_call None n _ a judged does.0
acts_judged None n (statement.Call (call.Come part)) old new a judged can does = judged_call None n _ a judged does.0
acts_judged None n (statement.Put name offset bytes) old new a judged can does = judged_inside None n a does.0
acts_judged None n (statement.Add name offset number) old new a judged can does = judged_inside None n a does.0
