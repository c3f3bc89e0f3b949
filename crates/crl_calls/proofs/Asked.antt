-- What a caller is after a call, and what the call tells.
use Rattle.std.proofs.Common.{◌≡◌, ℕ, ◌<◌, ◌^◌, false, true, List, [], length, refl, sym, ◌∙◌, subst}
use Rattle.std.specs.Prelude.{MatchResult}
use Rattle.std.specs.declared.result.Result.{Result}
use Rattle.std.specs.declared.result.Result.TheVariants.{Ok, Err}
use Rattle.crl_model.specs.declared.call.Call.{Call}
use Rattle.crl_model.specs.declared.call.CallKind.{CallKind}
use Rattle.crl_model.specs.declared.event.Event.{Event}
use Rattle.crl_protocol.specs.Node.{Answer}
use Rattle.crl_protocol.specs.Verdict.{word_of}
use Rattle.crl_turns.specs.declared.turned.Shape.{Shape}
use Rattle.crl_turns.specs.declared.view.View.{View}
use Rattle.crl_cluster.specs.declared.cluster.Cluster.{Cluster}
use Rattle.crl_cluster.specs.Clusters.{node_count, IsOf}
use Rattle.crl_calls.specs.declared.asking.Never.{Never}
use Rattle.crl_calls.specs.declared.asking.Never.TheVariants as never
use Rattle.crl_calls.specs.declared.asking.Told.{Told}
use Rattle.crl_calls.specs.declared.caller.Caller.{Caller}
use Rattle.crl_calls.specs.declared.faults.CallFault.{CallFault}
use Rattle.crl_calls.specs.declared.faults.CallFault.TheVariants as fault
use Rattle.crl_calls.specs.Answers.{may_refuse}
use Rattle.crl_calls.specs.Callers.{knows, IsCallerOf, IsSpent, Tells}
use Rattle.crl_calls.specs.Trails.{Walks, AnswersCall, unmade}
use Rattle.crl_calls.specs.Tries.{is_full, IsNever, IsGiven}
use Rattle.crl_calls.proofs.Walking.{walk_none}
use Rattle.crl_calls.proofs.Telling.{idle_on}

-- a caller that was spent before
pub spent_before : {N T A B : Type 0} (cluster : Cluster N T A B) (c : Call) (who : Caller) → IsCallerOf cluster who → who.spent ≡ true → IsSpent c who who
spent_before cluster c who is spent = record {
  node = refl;
  spent = spent;
  call = record { events = []; trail = unmade [] tt; walks = walk_none (knows who); full = is.full spent };
  stays = λ _. refl;
}

-- what is left of it after a call with this pass
pub caller_on : {N T A B : Type 0} (cluster : Cluster N T A B) (old new : Caller) (es : List Event) → IsCallerOf cluster old → IsOf cluster new.pass → new.node ≡ old.node → Walks (knows old) es (knows new)
    → (new.spent ≡ true → length (knows new).front ≡ 2 ^ 62) → IsCallerOf cluster new
caller_on cluster old new es is here node walks full =
    record { here = here; inside = subst (λ k. k < node_count cluster) (sym node) is.inside; idle = idle_on (knows old) es (knows new) is.idle walks; full = full }

abbrev CallTold : Shape → ℕ → Call → View → View → Result Told Never → Type 0
CallTold s node c old new r = MatchResult r (λ told. AnswersCall s node c old told.later told.answer new) (λ why. IsNever node c old why new)

walked : (s : Shape) (node : ℕ) (c : Call) (old new : View) (r : Result Told Never) → CallTold s node c old new r → (es : List Event) × Walks old es new
walked s node c old new (Ok told) is = (is.events, is.walks)
walked s node c old new (Err never.OutOfMemory) is = (is.events, is.walks)
walked s node c old new (Err never.Full) is = (is.events, is.walks)

filled : (s : Shape) (node : ℕ) (c : Call) (old new : View) (r : Result Told Never) → CallTold s node c old new r → is_full r ≡ true → length new.front ≡ 2 ^ 62
filled s node c old new (Ok told) is full = cc
filled s node c old new (Err never.OutOfMemory) is full = cc
filled s node c old new (Err never.Full) is full = is.full

pub asked_caller : {N T A B : Type 0} (cluster : Cluster N T A B) (s : Shape) (c : Call) (old new : Caller) (r : Result Told Never) → IsCallerOf cluster old → IsOf cluster new.pass → new.node ≡ old.node → new.spent ≡ is_full r
    → CallTold s old.node c (knows old) (knows new) r → IsCallerOf cluster new
asked_caller cluster s c old new r is here node spent told =
    let w = walked s old.node c (knows old) (knows new) r told in
    caller_on cluster old new w.0 is here node w.1 (λ full. filled s old.node c (knows old) (knows new) r told (sym spent ∙ full))

pub asked_told : {Out : Type 0} (s : Shape) (c : Call) (gives : Out → Answer → Type 0) (word : CallKind) (old new : Caller) (r : Result Told Never) (q : Result Out CallFault)
    → word ≡ word_of c → old.spent ≡ false → new.node ≡ old.node → new.spent ≡ is_full r → CallTold s old.node c (knows old) (knows new) r → IsGiven gives word r q
    → Tells s c old gives q new
asked_told s c gives word old new (Ok told) (Ok out) same awake node spent is given =
    record { awake = record { node = node; before = awake; after = spent }; later = told.later; answer = told.answer; gives = given; call = is }
asked_told s c gives word old new (Ok told) (Err (fault.Refused why)) same awake node spent is given = record {
  awake = record { node = node; before = awake; after = spent };
  later = told.later;
  answer = told.answer;
  gives = (given.0, subst (λ w. may_refuse w told.later why ≡ true) same given.1);
  call = is;
}
asked_told s c gives word old new (Ok told) (Err fault.OutOfMemory) same awake node spent is given = absurd given
asked_told s c gives word old new (Ok told) (Err fault.Spent) same awake node spent is given = absurd given
asked_told s c gives word old new (Err never.OutOfMemory) (Ok out) same awake node spent is given = absurd given
asked_told s c gives word old new (Err never.OutOfMemory) (Err (fault.Refused why)) same awake node spent is given = absurd given
asked_told s c gives word old new (Err never.OutOfMemory) (Err fault.OutOfMemory) same awake node spent is given =
    record { awake = record { node = node; before = awake; after = spent }; moves = is }
asked_told s c gives word old new (Err never.OutOfMemory) (Err fault.Spent) same awake node spent is given = absurd given
asked_told s c gives word old new (Err never.Full) (Ok out) same awake node spent is given = absurd given
asked_told s c gives word old new (Err never.Full) (Err (fault.Refused why)) same awake node spent is given = absurd given
asked_told s c gives word old new (Err never.Full) (Err fault.OutOfMemory) same awake node spent is given = absurd given
asked_told s c gives word old new (Err never.Full) (Err fault.Spent) same awake node spent is given =
    record { node = node; spent = spent; call = is; stays = λ was. absurd (let w : false ≡ true = sym awake ∙ was in cc) }
