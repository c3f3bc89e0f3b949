-- What a node does for a statement may be done.
use Rattle.std.proofs.Common.{◌≡◌, ◌∙◌, sym, ap, refl, subst, true, false, Option, Some, None, List}
use Rattle.crl_model.specs.declared.call.Call as calls
use Rattle.crl_model.specs.declared.call.Call.TheVariants as call
use Rattle.crl_model.specs.declared.call.Refusal.{Refusal}
use Rattle.crl_model.specs.declared.statement.Statement.{Statement}
use Rattle.crl_model.specs.declared.statement.Statement.TheVariants as statement
use Rattle.crl_protocol.specs.Node.{Node}
use Rattle.crl_protocol.specs.Verdict.{verdict}
use Rattle.crl_protocol.specs.World.{is_call}
use Rattle.crl_deeds.specs.Laws.{IsStatement}
use Rattle.crl_talk.specs.Guards.{Given}
use Rattle.crl_member.specs.Fitting.{goes_by_guard}
use Rattle.crl_run.specs.declared.act.Act.{Act}
use Rattle.crl_run.specs.declared.act.Act.TheVariants as act
use Rattle.crl_run.specs.Players.{IsOfKind}
use Rattle.crl_run.specs.Acting.{plain_call, CanAct, Acts}
use Rattle.crl_run.specs.Actors.{asked_call, call_made}
use Rattle.crl_run.specs.Fits.{GuardFits}
use Rattle.crl_run.proofs.Laws.{plain_verdict, IsUnguarded}
use Rattle.crl_crew.specs.Driving.{MayDo}

-- a plain call of a script is no change
abbrev IsNoChange : calls.Call → Type 0
IsNoChange (call.Put name offset len) = ⊥
IsNoChange (call.Add name offset) = ⊥
IsNoChange c = Unit {0}

goes_allowed : (n : Node) (c : calls.Call) → goes_by_guard c None ≡ false → IsNoChange c → is_call n c None ≡ true
goes_allowed n (call.Create size) un plain = refl
goes_allowed n (call.Delete name) un plain = refl
goes_allowed n (call.Map name) un plain = refl
goes_allowed n (call.Unmap name) un plain = refl
goes_allowed n (call.StartRead name) un plain = refl
goes_allowed n (call.EndRead name) un plain = refl
goes_allowed n (call.StartWrite name) un plain = refl
goes_allowed n (call.EndWrite name after) un plain = cc
goes_allowed n (call.Put name offset len) un plain = absurd plain
goes_allowed n (call.Add name offset) un plain = absurd plain
goes_allowed n (call.Flush name) un plain = refl
goes_allowed n (call.Come part) un plain = refl

may_come : (n : Node) (c : calls.Call) (o : Option Refusal) → verdict n c ≡ o → goes_by_guard c o ≡ false → (verdict n c ≡ None → IsNoChange c) → is_call n c o ≡ true
may_come n c (Some why) is un plain = refl
may_come n c None is un plain = goes_allowed n c un (plain is)

module _ (n : Node) (old new : List Given) (c : calls.Call) where
  as_plain : (d : calls.Call) → act.Call c ≡ act.Call d → IsNoChange d → IsNoChange c
  as_plain d e h = let same : c ≡ d = (let k : Some c ≡ Some d = ap call_made e in cc) in subst (λ x. IsNoChange x) (sym same) h

  no_guard : {A : Type 0} (write : _) (o : Option Given) → IsOfKind write o → None ≡ o → A
  no_guard write o kind e = absurd (subst (λ x. IsOfKind write x) (sym e) kind)

  inside : {A : Type 0} → act.Call c ≡ act.Inside → A
  inside e = let k : Some c ≡ None = ap call_made e in cc

  allowed : (x : Statement) → IsStatement x → CanAct None x old → Acts None x old (act.Call c) new → IsNoChange c
  allowed (statement.Call (call.EndRead name)) is can (e, same) = no_guard false _ can e
  allowed (statement.Call (call.EndWrite name after)) is can (e, same) = no_guard true _ can e
  allowed (statement.Call (call.Put name offset len)) is can (e, same) = absurd is
  allowed (statement.Call (call.Add name offset)) is can (e, same) = absurd is
  allowed (statement.Call (call.Create size)) is can (e, same) = as_plain _ e tt
  allowed (statement.Call (call.Delete name)) is can (e, same) = as_plain _ e tt
  allowed (statement.Call (call.Map name)) is can (e, same) = as_plain _ e tt
  allowed (statement.Call (call.Unmap name)) is can (e, same) = as_plain _ e tt
  allowed (statement.Call (call.StartRead name)) is can (e, same) = as_plain _ e tt
  allowed (statement.Call (call.StartWrite name)) is can (e, same) = as_plain _ e tt
  allowed (statement.Call (call.Flush name)) is can (e, same) = as_plain _ e tt
  allowed (statement.Call (call.Come part)) is can (e, same) = as_plain _ e tt
  allowed (statement.Put name offset bytes) is can (e, same) = inside e
  allowed (statement.Add name offset number) is can (e, same) = inside e

  no_change : (x : Statement) → IsStatement x → CanAct (verdict n (asked_call x)) x old → Acts (verdict n (asked_call x)) x old (act.Call c) new → verdict n c ≡ None → IsNoChange c
  no_change x is can acts none = go (verdict n (asked_call x)) refl can acts
    where
      go : (o : Option Refusal) → verdict n (asked_call x) ≡ o → CanAct o x old → Acts o x old (act.Call c) new → IsNoChange c
      go None e can acts = allowed x is can acts
      go (Some why) e can (w, same) =
          let plain : c ≡ plain_call x = (let k : Some c ≡ Some (plain_call x) = ap call_made w in cc) in
          let refused : None ≡ Some why = sym none ∙ ap (λ d. verdict n d) plain ∙ plain_verdict n x ∙ e in cc

pub may_do : (i : _) (n : Node) (old new : List Given) (x : Statement) (does : Act) → IsStatement x → CanAct (verdict n (asked_call x)) x old → Acts (verdict n (asked_call x)) x old does new
    → GuardFits i n does → IsUnguarded n does → MayDo i n does
may_do i n old new x (act.Call c) is can acts fits un = record { enabled = may_come n c (verdict n c) refl un (no_change n old new c x is can acts); unguarded = un }
may_do i n old new x (act.EndRead guard) is can acts fits un = fits
may_do i n old new x (act.EndWrite guard) is can acts fits un = fits
may_do i n old new x act.Inside is can acts fits un = tt
