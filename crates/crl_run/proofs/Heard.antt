-- The guards that a node holds are those that it was given: after each event.
use Rattle.std.proofs.Common.{◌≡◌, ◌∙◌, sym, ap, refl, ◌&&◌, Bool, true, false, if◌then◌else◌, Option, Some, None, ℕ, List, [], ◌∷◌, ◌++◌, subst}
use Rattle.crl_model.specs.declared.name.Name.{Name}
use Rattle.crl_model.specs.declared.call.Call as calls
use Rattle.crl_model.specs.declared.call.Call.TheVariants as call
use Rattle.crl_model.specs.declared.call.Refusal.{Refusal}
use Rattle.crl_model.specs.declared.statement.Statement.{Statement}
use Rattle.crl_model.specs.declared.statement.Statement.TheVariants as statement
use Rattle.crl_model.specs.declared.event.Event.{Event}
use Rattle.crl_model.specs.Names.{name_eq}
use Rattle.crl_protocol.specs.Home.{Home, HomeStep}
use Rattle.crl_protocol.specs.Remote.{Remote, RemoteStep}
use Rattle.crl_protocol.specs.Node.{Node, Answer, Done, Refused, home_of}
use Rattle.crl_protocol.specs.Sectioning.{after_home_end, after_remote, ends_over_remote, ends_over_home}
use Rattle.crl_protocol.specs.Calls.{takes_call, call_or_refuse, node_calls}
use Rattle.crl_protocol.specs.Verdict.{verdict, refuses_call}
use Rattle.crl_protocol.specs.Talk.{Heard, Called, Collected, hears_of, hears}
use Rattle.crl_protocol.specs.World.{new_world, step, is_enabled, world_of, IsRunFrom}
use Rattle.crl_talk.specs.Guards.{Given, given_of, is_done, ends_section, without_newest, held_after, guards_held}
use Rattle.crl_deeds.proofs.Laws.{append_nil, hears_grow}
use Rattle.crl_run.specs.declared.act.Act.{Act}
use Rattle.crl_run.specs.declared.act.Act.TheVariants as act
use Rattle.crl_run.specs.Players.{newest, guards_given, guards_without, IsOfKind}
use Rattle.crl_run.specs.Acting.{plain_call, CanAct, Acts, guard_spent}
use Rattle.crl_run.specs.Actors.{guards_of, asked_call, call_made}
use Rattle.crl_run.specs.Hearing.{AreLike, AreShown, HoldsHeard, Spends}
use Rattle.crl_run.proofs.Likeness.{like_join, like_rest, like_chain, all_like_self, given_here, guards_join, without_of, held_more}
use Rattle.crl_run.proofs.ActorLemmas.{newest_named as newest_is}
use Rattle.crl_run.proofs.Shown.{shown_rest, shown_then}

pub none_held : HoldsHeard [] []
none_held = record { like = λ q. tt; shown = λ q. tt }

-- What is answered to a call.
pub refused_answer : (n : Node) (c : calls.Call) (why : Refusal) → verdict n c ≡ Some why → (node_calls c n).answer ≡ Refused why
unfolding refuses_call
refused_answer n c why e = ap (λ o. (call_or_refuse o c n).answer) e

end_answer : (name : Name) (at_home : Home → HomeStep) (at_other : Remote → RemoteStep) (o : Option Home) (n : Node) → (ends_over_home name at_home at_other o n).answer ≡ Done
unfolding after_home_end after_remote
end_answer name at_home at_other (Some h) n = refl
end_answer name at_home at_other None n = go (n.remotes name)
  where
    go : (r : Option Remote) → (ends_over_remote name at_other r n).answer ≡ Done
    go None = refl
    go (Some r) = refl

pub read_answer : (n : Node) (name : Name) → verdict n (call.EndRead name) ≡ None → (node_calls (call.EndRead name) n).answer ≡ Done
unfolding takes_call
read_answer n name e = ap (λ o. (call_or_refuse o (call.EndRead name) n).answer) e ∙ end_answer name _ _ (home_of n name) _

pub write_answer : (n : Node) (name : Name) (after : List ℕ) → verdict n (call.EndWrite name after) ≡ None → (node_calls (call.EndWrite name after) n).answer ≡ Done
unfolding takes_call
write_answer n name after e = ap (λ o. (call_or_refuse o (call.EndWrite name after) n).answer) e ∙ end_answer name _ _ (home_of n name) _

-- The verdict doesn't go by the bytes of an end.
pub plain_verdict : (n : Node) (s : Statement) → verdict n (plain_call s) ≡ verdict n (asked_call s)
unfolding verdict
plain_verdict n (statement.Call (call.EndWrite name after)) = refl
plain_verdict n (statement.Call (call.Create size)) = refl
plain_verdict n (statement.Call (call.Delete name)) = refl
plain_verdict n (statement.Call (call.Map name)) = refl
plain_verdict n (statement.Call (call.Unmap name)) = refl
plain_verdict n (statement.Call (call.StartRead name)) = refl
plain_verdict n (statement.Call (call.EndRead name)) = refl
plain_verdict n (statement.Call (call.StartWrite name)) = refl
plain_verdict n (statement.Call (call.Put name offset len)) = refl
plain_verdict n (statement.Call (call.Add name offset)) = refl
plain_verdict n (statement.Call (call.Flush name)) = refl
plain_verdict n (statement.Call (call.Come part)) = refl
plain_verdict n (statement.Put name offset bytes) = refl
plain_verdict n (statement.Add name offset number) = refl

pub same_end_verdict : (n : Node) (name : Name) (after other : List ℕ) → verdict n (call.EndWrite name after) ≡ verdict n (call.EndWrite name other)
unfolding verdict
same_end_verdict n name after other = refl

-- Nothing is spent.
kept : (c : calls.Call) (answer : Answer) (old new : List Given) → ((q : Name) → (is_done answer && ends_section q c) ≡ false) → new ≡ old → Spends c answer old new
kept c answer old new none same q =
    subst (λ gs. AreLike (guards_of q gs) (if is_done answer && ends_section q c then without_newest (guards_of q old) else guards_of q old)) (sym same)
    (subst (λ b. AreLike (guards_of q old) (if b then without_newest (guards_of q old) else guards_of q old)) (sym (none q)) (all_like_self (guards_of q old)))

no_end : (b : Bool) → (b && false) ≡ false
no_end true = refl
no_end false = refl

pub refused_spends : (n : Node) (c : calls.Call) (why : Refusal) (old new : List Given) → verdict n c ≡ Some why → new ≡ old → Spends c (node_calls c n).answer old new
refused_spends n c why old new e same = kept c (node_calls c n).answer old new (λ q. ap (λ x. is_done x && ends_section q c) (refused_answer n c why e)) same

-- a section ends
spent : (c : calls.Call) (name : Name) (answer : Answer) (old new : List Given) → answer ≡ Done → ((q : Name) → ends_section q c ≡ name_eq name q) → new ≡ guards_without name old → Spends c answer old new
spent c name answer old new done ends same q =
    let flag : (is_done answer && ends_section q c) ≡ name_eq name q = ap (λ x. is_done x && ends_section q c) done ∙ ends q in
    subst (λ gs. AreLike (guards_of q gs) (if is_done answer && ends_section q c then without_newest (guards_of q old) else guards_of q old)) (sym same)
    (subst (λ b. AreLike (guards_of q (guards_without name old)) (if b then without_newest (guards_of q old) else guards_of q old)) (sym flag)
    (subst (λ gs. AreLike gs (if name_eq name q then without_newest (guards_of q old) else guards_of q old)) (sym (without_of name q old)) (all_like_self _)))

module _ (n : Node) (old new : List Given) where
  abbrev pub SpendsOne : Option calls.Call → Type 0
  SpendsOne None = Unit {0}
  SpendsOne (Some c) = Spends c (node_calls c n).answer old new

  plain_spends : (c : calls.Call) (does : Act) → ((q : Name) → ends_section q c ≡ false) → does ≡ act.Call c → new ≡ old → SpendsOne (call_made does)
  plain_spends c does none is same = subst (λ x. SpendsOne (call_made x)) (sym is) (kept c (node_calls c n).answer old new (λ q. ap (λ b. is_done (node_calls c n).answer && b) (none q) ∙ no_end (is_done (node_calls c n).answer)) same)

  read_spends : (name : Name) (does : Act) → verdict n (call.EndRead name) ≡ None → IsOfKind false (newest name old) → guard_spent does ≡ newest name old → new ≡ guards_without name old → SpendsOne (call_made does)
  read_spends name (act.Call c) e kind is same = absurd (subst (λ x. IsOfKind false x) (sym is) kind)
  read_spends name (act.EndRead g) e kind is same =
      let it : g.name ≡ name = newest_is name old (record { write = false; guard = g }) (sym is) in
      subst (λ p. Spends (call.EndRead p) (node_calls (call.EndRead p) n).answer old new) (sym it) (spent (call.EndRead name) name (node_calls (call.EndRead name) n).answer old new (read_answer n name e) (λ q. refl) same)
  read_spends name (act.EndWrite g) e kind is same = absurd (let k : true ≡ false = subst (λ x. IsOfKind false x) (sym is) kind in cc)
  read_spends name act.Inside e kind is same = absurd (subst (λ x. IsOfKind false x) (sym is) kind)

  write_spends : (name : Name) (after : List ℕ) (does : Act) → verdict n (call.EndWrite name after) ≡ None → IsOfKind true (newest name old) → guard_spent does ≡ newest name old → new ≡ guards_without name old → SpendsOne (call_made does)
  write_spends name after (act.Call c) e kind is same = absurd (subst (λ x. IsOfKind true x) (sym is) kind)
  write_spends name after (act.EndRead g) e kind is same = absurd (let k : false ≡ true = subst (λ x. IsOfKind true x) (sym is) kind in cc)
  write_spends name after (act.EndWrite g) e kind is same =
      let it : g.name ≡ name = newest_is name old (record { write = true; guard = g }) (sym is) in
      subst (λ p. Spends (call.EndWrite p g.bytes) (node_calls (call.EndWrite p g.bytes) n).answer old new) (sym it)
      (spent (call.EndWrite name g.bytes) name (node_calls (call.EndWrite name g.bytes) n).answer old new (write_answer n name g.bytes (same_end_verdict n name g.bytes after ∙ e)) (λ q. refl) same)
  write_spends name after act.Inside e kind is same = absurd (subst (λ x. IsOfKind true x) (sym is) kind)

  allowed_spends : (s : Statement) (does : Act) → verdict n (asked_call s) ≡ None → CanAct None s old → Acts None s old does new → SpendsOne (call_made does)
  allowed_spends (statement.Call (call.EndRead name)) does e can (is, same) = read_spends name does e can is same
  allowed_spends (statement.Call (call.EndWrite name after)) does e can (is, same) = write_spends name after does e can is same
  allowed_spends (statement.Call (call.Create size)) does e can (is, same) = plain_spends (call.Create size) does (λ q. refl) is same
  allowed_spends (statement.Call (call.Delete name)) does e can (is, same) = plain_spends (call.Delete name) does (λ q. refl) is same
  allowed_spends (statement.Call (call.Map name)) does e can (is, same) = plain_spends (call.Map name) does (λ q. refl) is same
  allowed_spends (statement.Call (call.Unmap name)) does e can (is, same) = plain_spends (call.Unmap name) does (λ q. refl) is same
  allowed_spends (statement.Call (call.StartRead name)) does e can (is, same) = plain_spends (call.StartRead name) does (λ q. refl) is same
  allowed_spends (statement.Call (call.StartWrite name)) does e can (is, same) = plain_spends (call.StartWrite name) does (λ q. refl) is same
  allowed_spends (statement.Call (call.Put name offset len)) does e can (is, same) = plain_spends (call.Put name offset len) does (λ q. refl) is same
  allowed_spends (statement.Call (call.Add name offset)) does e can (is, same) = plain_spends (call.Add name offset) does (λ q. refl) is same
  allowed_spends (statement.Call (call.Flush name)) does e can (is, same) = plain_spends (call.Flush name) does (λ q. refl) is same
  allowed_spends (statement.Call (call.Come part)) does e can (is, same) = plain_spends (call.Come part) does (λ q. refl) is same
  allowed_spends (statement.Put name offset bytes) does e can (is, same) = subst (λ x. SpendsOne (call_made x)) (sym is) tt
  allowed_spends (statement.Add name offset number) does e can (is, same) = subst (λ x. SpendsOne (call_made x)) (sym is) tt

  refused_act : (s : Statement) (does : Act) (why : Refusal) → verdict n (asked_call s) ≡ Some why → Acts (Some why) s old does new → SpendsOne (call_made does)
  refused_act s does why e (is, same) = subst (λ x. SpendsOne (call_made x)) (sym is) (refused_spends n (plain_call s) why old new (plain_verdict n s ∙ e) same)

  pub act_spends : (s : Statement) (does : Act) → CanAct (verdict n (asked_call s)) s old → Acts (verdict n (asked_call s)) s old does new → SpendsOne (call_made does)
  act_spends s does can acts = go (verdict n (asked_call s)) refl can acts
    where
      go : (o : Option Refusal) → verdict n (asked_call s) ≡ o → CanAct o s old → Acts o s old does new → SpendsOne (call_made does)
      go None e can acts = allowed_spends s does e can acts
      go (Some why) e can acts = refused_act s does why e acts

-- One event more.
module _ (count capacity : ℕ) (run : List Event) (r : IsRunFrom (new_world count capacity) run) (e : Event) (may : is_enabled e (world_of count capacity run) ≡ true) (n : ℕ) where
  abbrev told : List Heard
  told = hears n (new_world count capacity) run

  abbrev told_then : List Heard
  told_then = hears n (new_world count capacity) (run ++ e ∷ [])

  abbrev given_then : Answer
  given_then = (step e (world_of count capacity run)).answer

  pub hears_nothing : hears_of n e given_then ≡ [] → (gs : List Given) → HoldsHeard told gs → HoldsHeard told_then gs
  hears_nothing none gs h = subst (λ hs. HoldsHeard hs gs) (sym (hears_grow n (new_world count capacity) run e ∙ ap (λ hs. told ++ hs) none ∙ append_nil told)) h

  given_like : (q : Name) (new left : List Given) → AreLike (guards_of q new) left → AreLike (guards_of q (guards_given given_then ++ new)) (given_of q given_then ++ left)
  given_like q new left h =
      subst (λ gs. AreLike gs (given_of q given_then ++ left)) (sym (guards_join q (guards_given given_then) new ∙ ap (λ gs. gs ++ guards_of q new) (given_here q given_then)))
      (like_join (given_of q given_then) (given_of q given_then) (guards_of q new) left (all_like_self (given_of q given_then)) h)

  held_then : (q : Name) (h : Heard) → hears_of n e given_then ≡ h ∷ [] → guards_held q [] told_then ≡ held_after q h (guards_held q [] told)
  held_then q h is = ap (guards_held q []) (hears_grow n (new_world count capacity) run e ∙ ap (λ hs. told ++ hs) is) ∙ held_more q [] told h

  pub hears_answer : hears_of n e given_then ≡ Collected given_then ∷ [] → (gs : List Given) → HoldsHeard told gs → HoldsHeard told_then (guards_given given_then ++ gs)
  hears_answer is gs h = record {
    like = λ q. subst (λ hs. AreLike (guards_of q (guards_given given_then ++ gs)) hs) (sym (held_then q (Collected given_then) is)) (given_like q gs _ (h.like q));
    shown = λ q. shown_then count capacity run r e may n q (Collected given_then ∷ []) (guards_held q [] told) is refl (h.shown q);
  }

  pub hears_call : (c : calls.Call) → hears_of n e given_then ≡ Called c given_then ∷ [] → (old new : List Given) → Spends c given_then old new → HoldsHeard told old → HoldsHeard told_then (guards_given given_then ++ new)
  hears_call c is old new spends h = record {
    like = λ q. subst (λ hs. AreLike (guards_of q (guards_given given_then ++ new)) hs) (sym (held_then q (Called c given_then) is))
        (given_like q new _ (like_chain (guards_of q new) _ _ (spends q) (cut_like (is_done given_then && ends_section q c) q)));
    shown = λ q. shown_then count capacity run r e may n q (Called c given_then ∷ []) _ is refl (cut_shown (is_done given_then && ends_section q c) q);
  }
    where
      cut_like : (b : Bool) (q : Name) → AreLike (if b then without_newest (guards_of q old) else guards_of q old) (if b then without_newest (guards_held q [] told) else guards_held q [] told)
      cut_like true q = like_rest _ _ (h.like q)
      cut_like false q = h.like q

      cut_shown : (b : Bool) (q : Name) → AreShown (if b then without_newest (guards_held q [] told) else guards_held q [] told)
      cut_shown true q = shown_rest _ (h.shown q)
      cut_shown false q = h.shown q
