-- The call that a node makes for a statement isn't the end of a section that is allowed: such an end goes by its guard.
use Rattle.std.proofs.Common.{◌≡◌, ◌∙◌, sym, refl, true, false, Option, Some, None, List, subst}
use Rattle.crl_model.specs.declared.call.Call as calls
use Rattle.crl_model.specs.declared.call.Call.TheVariants as call
use Rattle.crl_model.specs.declared.call.Refusal.{Refusal}
use Rattle.crl_model.specs.declared.statement.Statement.{Statement}
use Rattle.crl_model.specs.declared.statement.Statement.TheVariants as statement
use Rattle.crl_protocol.specs.Node.{Node}
use Rattle.crl_protocol.specs.Verdict.{verdict}
use Rattle.crl_talk.specs.Guards.{Given}
use Rattle.crl_member.specs.Fitting.{goes_by_guard}
use Rattle.crl_run.specs.declared.act.Act.{Act}
use Rattle.crl_run.specs.declared.act.Act.TheVariants as act
use Rattle.crl_run.specs.Players.{IsOfKind}
use Rattle.crl_run.specs.Acting.{plain_call, CanAct, Acts, guard_spent}
use Rattle.crl_run.specs.Actors.{asked_call}
use Rattle.crl_run.proofs.Heard.{plain_verdict}

-- the call of an act, if it is one, doesn't go by a guard
abbrev pub IsUnguarded : Node → Act → Type 0
IsUnguarded n (act.Call c) = goes_by_guard c (verdict n c) ≡ false
IsUnguarded n (act.EndRead guard) = Unit {0}
IsUnguarded n (act.EndWrite guard) = Unit {0}
IsUnguarded n act.Inside = Unit {0}

no_call : (n : Node) (write : _) (does : Act) (o : Option Given) → IsOfKind write o → guard_spent does ≡ o → IsUnguarded n does
no_call n write (act.Call c) o kind is = absurd (subst (λ x. IsOfKind write x) (sym is) kind)
no_call n write (act.EndRead g) o kind is = tt
no_call n write (act.EndWrite g) o kind is = tt
no_call n write act.Inside o kind is = tt

module _ (n : Node) (old new : List Given) where
  no_end : (c : calls.Call) (does : Act) (o : Option Refusal) → verdict n c ≡ o → goes_by_guard c o ≡ false → does ≡ act.Call c → IsUnguarded n does
  no_end c does o e is same = subst (λ x. IsUnguarded n x) (sym same) (subst (λ x. goes_by_guard c x ≡ false) (sym e) is)

  inside : (does : Act) → does ≡ act.Inside → IsUnguarded n does
  inside does same = subst (λ x. IsUnguarded n x) (sym same) tt

  allowed : (s : Statement) (does : Act) → verdict n (asked_call s) ≡ None → CanAct None s old → Acts None s old does new → IsUnguarded n does
  allowed (statement.Call (call.EndRead name)) does e can (is, same) = no_call n false does _ can is
  allowed (statement.Call (call.EndWrite name after)) does e can (is, same) = no_call n true does _ can is
  allowed (statement.Call (call.Create size)) does e can (is, same) = no_end _ does None e refl is
  allowed (statement.Call (call.Delete name)) does e can (is, same) = no_end _ does None e refl is
  allowed (statement.Call (call.Map name)) does e can (is, same) = no_end _ does None e refl is
  allowed (statement.Call (call.Unmap name)) does e can (is, same) = no_end _ does None e refl is
  allowed (statement.Call (call.StartRead name)) does e can (is, same) = no_end _ does None e refl is
  allowed (statement.Call (call.StartWrite name)) does e can (is, same) = no_end _ does None e refl is
  allowed (statement.Call (call.Put name offset len)) does e can (is, same) = no_end _ does None e refl is
  allowed (statement.Call (call.Add name offset)) does e can (is, same) = no_end _ does None e refl is
  allowed (statement.Call (call.Flush name)) does e can (is, same) = no_end _ does None e refl is
  allowed (statement.Call (call.Come part)) does e can (is, same) = no_end _ does None e refl is
  allowed (statement.Put name offset bytes) does e can (is, same) = inside does is
  allowed (statement.Add name offset number) does e can (is, same) = inside does is

  pub act_unguarded : (s : Statement) (does : Act) → CanAct (verdict n (asked_call s)) s old → Acts (verdict n (asked_call s)) s old does new → IsUnguarded n does
  act_unguarded s does can acts = go (verdict n (asked_call s)) refl can acts
    where
      go : (o : Option Refusal) → verdict n (asked_call s) ≡ o → CanAct o s old → Acts o s old does new → IsUnguarded n does
      go None e can acts = allowed s does e can acts
      go (Some why) e can (is, same) = no_end (plain_call s) does (Some why) (plain_verdict n s ∙ e) refl is
