-- The end of a section by its guard.
use Rattle.std.proofs.Common.{◌≡◌, ℕ, ◌+◌, nat_lt, ◌^◌, Bool, false, true, not, arith, List, [], ◌∷◌, length, Option, None, Some, refl, sym, ap, ◌∙◌, subst}
use Rattle.std.proofs.lemmas.Bool.{ltb-true}
use Rattle.std.specs.Option.{is_some}
use Rattle.std.specs.Prelude.{MatchResult}
use Rattle.std.specs.declared.result.Result.{Result}
use Rattle.std.specs.declared.result.Result.TheVariants.{Ok, Err}
use Rattle.crl_model.specs.declared.name.Name.{Name}
use Rattle.crl_model.specs.declared.call.Call.{Call}
use Rattle.crl_model.specs.declared.call.Call.TheVariants as call
use Rattle.crl_model.specs.declared.call.Refusal.{Refusal}
use Rattle.crl_model.specs.declared.call.Refusal.TheVariants.{OutOfRange}
use Rattle.crl_model.specs.declared.event.Event.{Event}
use Rattle.crl_model.specs.declared.event.Event.TheVariants as event
use Rattle.crl_protocol.specs.Node.{Node, Answer, Done}
use Rattle.crl_protocol.specs.Sections.{section_at}
use Rattle.crl_protocol.specs.Verdict.{verdict, else_if, refuse_if, of_unmapped, of_end, mapped_size}
use Rattle.crl_turns.specs.declared.turned.Shape.{Shape}
use Rattle.crl_turns.specs.declared.view.View.{View}
use Rattle.crl_turns.specs.Calls.{HasValue, after_take, after_give_back}
use Rattle.crl_turns.specs.Fronts.{Begins}
use Rattle.crl_turns.proofs.Laws.{holds_what_it_has}
use Rattle.crl_cluster.specs.declared.cluster.Cluster.{Cluster}
use Rattle.crl_cluster.specs.declared.faults.StepFault.{StepFault}
use Rattle.crl_cluster.specs.declared.faults.StepFault.TheVariants as fault
use Rattle.crl_cluster.specs.Acting.{IsDone, IsUndone}
use Rattle.crl_cluster.specs.Clusters.{IsOf}
use Rattle.crl_cluster.specs.Standing.{world_at}
use Rattle.crl_calls.specs.declared.caller.Caller.{Caller}
use Rattle.crl_calls.specs.declared.ending.Ended.{Ended}
use Rattle.crl_calls.specs.declared.ending.Ended.TheVariants as ended
use Rattle.crl_calls.specs.declared.faults.EndFault.{EndFault}
use Rattle.crl_calls.specs.declared.faults.EndWhy.{EndWhy}
use Rattle.crl_calls.specs.declared.faults.EndWhy.TheVariants as end
use Rattle.crl_calls.specs.Callers.{knows, IsCallerOf, IsSpentBefore, IsNotEnded, TellsEnd, is_allowed}
use Rattle.crl_calls.specs.Trails.{Walks, Moves, Does}
use Rattle.crl_calls.specs.Tries.{ended_of, stops, is_full_end, EndsHeld, DoesEnd, IsNeverEnded, IsEnded}
use Rattle.crl_calls.proofs.Walking.{last_event, last_around, walk_event, walk_undone, walk_around}
use Rattle.crl_calls.proofs.Telling.{moves_none, moves_walk, moves_then, moves_full, does_now, does_after, answered_at_once}
use Rattle.crl_calls.proofs.Asked.{caller_on}

-- A node refuses a change of no bytes where it refuses the end of the write section.
lt_zero : (k : ℕ) → (b : Bool) → nat_lt k 0 ≡ b → b ≡ false
lt_zero k true e = absurd (omega (arith, ltb-true k 0 e))
lt_zero k false e = refl

same_allowed : (x y : Option Refusal) (b : Bool) (why : Refusal) → b ≡ false → is_allowed (else_if x (else_if y (refuse_if b why))) ≡ is_allowed (else_if x y)
same_allowed (Some r) y b why e = refl
same_allowed None (Some r) b why e = refl
same_allowed None None b why e = ap (λ t. is_allowed (refuse_if t why)) e

none_allowed : (o : Option Refusal) (r : Bool) → is_some o ≡ not r → r ≡ is_allowed o
none_allowed None true e = refl
none_allowed None false e = cc
none_allowed (Some why) true e = cc
none_allowed (Some why) false e = refl

pub closes_as : (n : Node) (name : Name) (r : Bool) → is_some (verdict n (call.Put name 0 0)) ≡ not r → (after : List ℕ) → r ≡ is_allowed (verdict n (call.EndWrite name after))
unfolding verdict
closes_as n name r e after =
    none_allowed _ r e ∙ same_allowed (of_unmapped n name) (of_end true (section_at name n.sections)) (nat_lt (mapped_size (n.maps name)) (0 + 0)) OutOfRange (lt_zero (mapped_size (n.maps name)) _ refl)

undone_as : {G : Type 0} (IsItDone : Type 0) (s : Shape) (node : ℕ) (may_end : Node → Bool) (guard back : G) (old new : View) (why : StepFault) → back ≡ guard → IsUndone s old why new
    → IsEnded IsItDone s node may_end guard old (ended_of why back) new
undone_as IsItDone s node may_end guard back old new fault.OutOfMemory same is = (same, moves_walk old new (walk_undone s old new fault.OutOfMemory is))
undone_as IsItDone s node may_end guard back old new (fault.Moved saw found) same is = (same, moves_walk old new (walk_undone s old new (fault.Moved saw found) is))
undone_as IsItDone s node may_end guard back old new fault.Spent same is = (same, (moves_walk old new (walk_undone s old new fault.Spent is), is.full))

pub undone_ended : {G : Type 0} (IsItDone : Type 0) (s : Shape) (node : ℕ) (may_end : Node → Bool) (guard back : G) (old new : View) (why : StepFault) (r : Ended G) → r ≡ ended_of why back → back ≡ guard
    → IsUndone s old why new → IsEnded IsItDone s node may_end guard old r new
undone_ended IsItDone s node may_end guard back old new why r how same is = subst (λ t. IsEnded IsItDone s node may_end guard old t new) (sym how) (undone_as IsItDone s node may_end guard back old new why same is)

-- The held node has the section open before the event too: none that came meanwhile touches it.
pub ends_held : (s : Shape) (node : ℕ) (c : Call) (may_end : Node → Bool) (old new : View) → HasValue node old → may_end ((world_at s old.front).nodes node) ≡ true → IsDone s (event.Call node c) old Done new
    → EndsHeld s node c may_end old new
ends_held s node c may_end old new has may is =
    let came = is.comes in
    record {
      does = is;
      may = record {
        before = came.before;
        front_is = came.front;
        was_so = subst (λ n. may_end n ≡ true) (sym (came.grows.nodes node (holds_what_it_has node old has))) may;
      };
    }

-- The node was held for it.
module _ (s : Shape) (node : ℕ) (old held done new : View) (begins : Begins old.front held.front) (takes : held ≡ after_take node held.front old) (gives : new ≡ after_give_back node done) where
  moves_around : Moves held done → Moves old new
  moves_around is = record { events = is.events; moves = is.moves; walks = walk_around s node old held done new is.events begins takes is.walks gives }

  front_is : new.front ≡ done.front
  front_is = ap (λ (v : View). v.front) gives

  does_around : (e : Event) (answer : Answer) → IsDone s e held answer done → Does s e old answer new
  does_around e answer is =
      let came = is.comes in
      does_now s e old answer new (walk_around s node old held done new (e ∷ []) begins takes (walk_event s e held done came) gives)
      (record { before = came.before; front_is = front_is ∙ came.front; run = came.run; enabled = came.enabled; answer_is = is.answer_is })
      (last_around node done new gives (last_event s e held done came))

  ends_around : (c : Call) (may_end : Node → Bool) → EndsHeld s node c may_end held done → DoesEnd s node c may_end old new
  ends_around c may_end is =
      record { does = does_around (event.Call node c) Done is.does; may = record { before = is.may.before; front_is = front_is ∙ is.may.front_is; was_so = is.may.was_so } }

  pub ended_around : {G : Type 0} (c : Call) (may_end : Node → Bool) (guard : G) (i : ℕ) (r : Ended G) → i ≡ node
      → IsEnded (EndsHeld s i c may_end held done) s i may_end guard held r done → IsEnded (DoesEnd s node c may_end old new) s node may_end guard old r new
  ended_around c may_end guard i ended.Done same told = ends_around c may_end (subst (λ k. EndsHeld s k c may_end held done) same told)
  ended_around c may_end guard i (ended.Again back) same told = (told.0, moves_around told.1)
  ended_around c may_end guard i (ended.Foreign back) same told =
      (told.0, (moves_around told.1.0, subst (λ front. may_end ((world_at s front).nodes node) ≡ false) (sym front_is) (subst (λ k. may_end ((world_at s done.front).nodes k) ≡ false) same told.1.1)))
  ended_around c may_end guard i (ended.Full back) same told = (told.0, (moves_around told.1.0, ap length front_is ∙ told.1.1))

pub ends_after : (s : Shape) (node : ℕ) (c : Call) (may_end : Node → Bool) (a b new : View) → Moves a b → DoesEnd s node c may_end b new → DoesEnd s node c may_end a new
ends_after s node c may_end a b new moves is = record { does = does_after s (event.Call node c) a b Done new moves is.does; may = is.may }

pub ended_after : (s : Shape) (node : ℕ) (may_end : Node → Bool) (a b new : View) (why : EndWhy) → Moves a b → IsNeverEnded s node may_end b why new → IsNeverEnded s node may_end a why new
ended_after s node may_end a b new end.Foreign moves is = (moves_then a b new moves is.0, is.1)
ended_after s node may_end a b new end.Spent moves is = moves_full a b new moves is

abbrev EndTold : {G : Type 0} → Shape → ℕ → Call → (Node → Bool) → G → View → View → Result (Unit {0}) (EndFault G) → Type 0
EndTold s node c may_end guard old new r = MatchResult r (λ _. DoesEnd s node c may_end old new) (λ back. (back.guard ≡ guard) × IsNeverEnded s node may_end old back.why new)

moves_of : (s : Shape) (node : ℕ) (may_end : Node → Bool) (old new : View) (why : EndWhy) → IsNeverEnded s node may_end old why new → Moves old new
moves_of s node may_end old new end.Foreign is = is.0
moves_of s node may_end old new end.Spent is = is.0

full_of : (s : Shape) (node : ℕ) (may_end : Node → Bool) (old new : View) (why : EndWhy) → IsNeverEnded s node may_end old why new → stops why ≡ true → length new.front ≡ 2 ^ 62
full_of s node may_end old new end.Foreign is stop = cc
full_of s node may_end old new end.Spent is stop = is.1

walked : {G : Type 0} (s : Shape) (node : ℕ) (c : Call) (may_end : Node → Bool) (guard : G) (old new : View) (r : Result (Unit {0}) (EndFault G)) → EndTold s node c may_end guard old new r → (es : List Event) × Walks old es new
walked s node c may_end guard old new (Ok done) is = (_, is.does.walks)
walked s node c may_end guard old new (Err back) is = let m = moves_of s node may_end old new back.why is.1 in (m.events, m.walks)

filled : {G : Type 0} (s : Shape) (node : ℕ) (c : Call) (may_end : Node → Bool) (guard : G) (old new : View) (r : Result (Unit {0}) (EndFault G)) → EndTold s node c may_end guard old new r → is_full_end r ≡ true → length new.front ≡ 2 ^ 62
filled s node c may_end guard old new (Ok done) is full = cc
filled s node c may_end guard old new (Err back) is full = full_of s node may_end old new back.why is.1 full

pub spent_unended : {N T A B : Type 0} (cluster : Cluster N T A B) (who : Caller) → IsCallerOf cluster who → who.spent ≡ true → IsSpentBefore who who
spent_unended cluster who is spent = record { node = refl; spent = spent; moves = (moves_none (knows who), is.full spent); stays = λ _. refl }

pub ended_caller : {N T A B G : Type 0} (cluster : Cluster N T A B) (s : Shape) (c : Call) (may_end : Node → Bool) (guard : G) (old new : Caller) (r : Result (Unit {0}) (EndFault G)) → IsCallerOf cluster old → IsOf cluster new.pass
    → new.node ≡ old.node → new.spent ≡ is_full_end r → EndTold s old.node c may_end guard (knows old) (knows new) r → IsCallerOf cluster new
ended_caller cluster s c may_end guard old new r is here node spent told =
    let w = walked s old.node c may_end guard (knows old) (knows new) r told in
    caller_on cluster old new w.0 is here node w.1 (λ full. filled s old.node c may_end guard (knows old) (knows new) r told (sym spent ∙ full))

not_ended : (s : Shape) (may_end : Node → Bool) (old new : Caller) (why : EndWhy) → old.spent ≡ false → new.node ≡ old.node → new.spent ≡ stops why → IsNeverEnded s old.node may_end (knows old) why (knows new)
    → IsNotEnded s may_end old why new
not_ended s may_end old new end.Foreign awake node spent is = (record { awake = record { node = node; before = awake; after = spent }; moves = is.0 }, is.1)
not_ended s may_end old new end.Spent awake node spent is =
    record { node = node; spent = spent; moves = is; stays = λ was. absurd (let w : false ≡ true = sym awake ∙ was in cc) }

pub ended_told : {G : Type 0} (s : Shape) (c : Call) (may_end : Node → Bool) (guard : G) (old new : Caller) (r : Result (Unit {0}) (EndFault G)) → old.spent ≡ false → new.node ≡ old.node → new.spent ≡ is_full_end r
    → EndTold s old.node c may_end guard (knows old) (knows new) r
    → TellsEnd s c may_end old guard r new
ended_told s c may_end guard old new (Ok done) awake node spent is =
    let made = answered_at_once s old.node c (knows old) Done (knows new) is.does in
    record { answered = record { awake = record { node = node; before = awake; after = spent }; later = false; answer = Done; gives = (refl, refl); call = made }; may = is.may }
ended_told s c may_end guard old new (Err back) awake node spent is = (is.0, not_ended s may_end old new back.why awake node spent is.1)
