-- A run that follows a script makes the calls of its statements.
use Rattle.std.proofs.Common.{◌≡◌, ℕ, ◌==◌, ◌&&◌, Bool, true, false, None, Some, Option, if◌then◌else◌, List, [], ◌∷◌, ◌++◌, length, refl, ap, sym, ◌∙◌, subst}
use Rattle.std.proofs.lemmas.Bool.{cond-true, cond-false, eqb-true, eq-eqb}
use Rattle.crl_model.specs.declared.name.Name.{Name}
use Rattle.crl_model.specs.declared.call.Call.{Call}
use Rattle.crl_model.specs.declared.call.Call.TheVariants as call
use Rattle.crl_model.specs.declared.call.Refusal.{Refusal}
use Rattle.crl_model.specs.declared.event.Event.{Event}
use Rattle.crl_model.specs.declared.event.Event.TheVariants as event
use Rattle.crl_model.specs.declared.statement.Statement.{Statement}
use Rattle.crl_model.specs.declared.statement.Statement.TheVariants as statement
use Rattle.crl_model.specs.Names.{at_node}
use Rattle.crl_protocol.specs.Node.{Node, Answer, Writing}
use Rattle.crl_protocol.specs.Verdict.{verdict}
use Rattle.crl_protocol.specs.World.{World, WorldStep, step}
use Rattle.crl_protocol.specs.Chosen.{Actor, block_of, Running, running, call_of, call_with, draft_of, after_change, is_change, is_allowed, takes_guard}
use Rattle.crl_deeds.specs.Laws.{IsNext, next_call, is_inside, node_of, is_call_event, Follows, ended, changes, calls, happens}
use Rattle.crl_talk.specs.Script.{Drafts, no_drafts, drafts_given, Changes, puts, adds, IsPlain, CallsFor, plain, leaves, cant_leave, cant_change, calls_at, CallsAre, CallsAreThose}
use Rattle.crl_talk.specs.Script as script
use Rattle.crl_deeds.proofs.Laws.{allowed, given_left}

-- of an actor's statements these are the last, and the others make the calls
record Says (n : ℕ) (w : World) (a : Actor) (last : List Statement) (es : List Event) : Type 0 where
  reached : List Statement
  parts : a.left ≡ reached ++ last
  calls : CallsAre n w a.drafts reached es

here : (f : ℕ → Actor) (i n : ℕ) (x : Actor) → (i == n) ≡ true → at_node f i x n ≡ x
here f i n x e = cond-true (i == n) x (f n) e

other : (f : ℕ → Actor) (i n : ℕ) (x : Actor) → (i == n) ≡ false → at_node f i x n ≡ f n
other f i n x e = cond-false (i == n) x (f n) e

-- A statement that is an allowed change, and one that is a call.
change_of : (n : Node) (a : Actor) (s : Statement) → (is_change s && is_allowed (verdict n (call_of n a s))) ≡ true
    → Changes a.drafts s (call_of n a s) (after_change s a).drafts × (verdict n (call_of n a s) ≡ None) × ((after_change s a).left ≡ a.left)
change_of n a (statement.Call c) h = cc
change_of n a (statement.Put name offset bytes) h = (puts name offset bytes, allowed _ h, refl)
change_of n a (statement.Add name offset number) h = (adds name offset number, allowed _ h, refl)

pub end_of : (n : Node) (a : Actor) (name : Name) (after : List ℕ) (o : Option Refusal) → verdict n (call.EndWrite name after) ≡ o
    → CallsFor n a.drafts (statement.Call (call.EndWrite name after)) (call.EndWrite name (draft_of o name a))
end_of n a name after None e = leaves name after e
end_of n a name after (Some why) e = cant_leave name after why e

pub plain_of : (n : Node) (a : Actor) (c : Call) → CallsFor n a.drafts (statement.Call c) (call_with n a c)
plain_of n a (call.EndWrite name after) = end_of n a name after (verdict n (call.EndWrite name after)) refl
plain_of n a (call.Create size) = plain (call.Create size) tt
plain_of n a (call.Delete name) = plain (call.Delete name) tt
plain_of n a (call.Map name) = plain (call.Map name) tt
plain_of n a (call.Unmap name) = plain (call.Unmap name) tt
plain_of n a (call.StartRead name) = plain (call.StartRead name) tt
plain_of n a (call.EndRead name) = plain (call.EndRead name) tt
plain_of n a (call.StartWrite name) = plain (call.StartWrite name) tt
plain_of n a (call.Put name offset len) = plain (call.Put name offset len) tt
plain_of n a (call.Add name offset) = plain (call.Add name offset) tt
plain_of n a (call.Flush name) = plain (call.Flush name) tt
plain_of n a (call.Come part) = plain (call.Come part) tt

pub refused : (n : Node) (d after : Drafts) (s : Statement) (c : Call) → Changes d s c after → (o : Option Refusal) → verdict n c ≡ o → is_allowed o ≡ false → CallsFor n d s c
refused n d after s c x None e h = cc
refused n d after s c x (Some why) e h = cant_change why x e

pub call_for : (n : Node) (a : Actor) (s : Statement) → (is_change s && is_allowed (verdict n (call_of n a s))) ≡ false → CallsFor n a.drafts s (call_of n a s)
call_for n a (statement.Call c) h = plain_of n a c
call_for n a (statement.Put name offset bytes) h = refused n a.drafts _ _ _ (puts name offset bytes) (verdict n (call.Put name offset (length bytes))) refl h
call_for n a (statement.Add name offset number) h = refused n a.drafts _ _ _ (adds name offset number) (verdict n (call.Add name offset)) refl h

-- what an answer gives
pub drafts_same : (answer : Answer) (a : Actor) → (takes_guard answer a).drafts ≡ drafts_given answer a.drafts
drafts_same (Writing guard) a = refl
drafts_same _ a = refl

pub call_of_left : (n : Node) (a : Actor) (left : List Statement) (s : Statement) → call_of n (record a { left = left }) s ≡ call_of n a s
call_of_left n a left (statement.Call (call.EndWrite name after)) = go (verdict n (call.EndWrite name after))
  where
    go : (o : Option Refusal) → call.EndWrite name (draft_of o name (record a { left = left })) ≡ call.EndWrite name (draft_of o name a)
    go None = refl
    go (Some why) = refl
call_of_left n a left (statement.Call _) = refl
call_of_left n a left (statement.Put name offset bytes) = refl
call_of_left n a left (statement.Add name offset number) = refl

-- another node's event, and a call of this one
said_passes : (n : ℕ) (r : Running) (i : ℕ) (e : Event) (es : List Event) (last : List Statement) (f : ℕ → Actor) → f n ≡ r.actors n → node_of e ≡ i → calls_at n e ≡ false → (b : Bool) → (i == n) ≡ b
    → Says n (step e r.world).world (at_node f i (takes_guard (step e r.world).answer (f i)) n) last es → Says n r.world (r.actors n) last (e ∷ es)
said_passes n r i e es last f same own apart b k h = record { reached = h.reached; parts = left b k ∙ h.parts; calls = script.passes e apart (subst (λ d. CallsAre n (step e r.world).world d h.reached es) (drafts b k) h.calls) }
  where
    answer : Answer
    answer = (step e r.world).answer

    after : Actor
    after = at_node f i (takes_guard answer (f i)) n

    mine : i ≡ n → f i ≡ r.actors n
    mine x = ap f x ∙ same

    left : (b : Bool) → (i == n) ≡ b → (r.actors n).left ≡ after.left
    left true k = sym (ap (λ (a : Actor). a.left) (here f i n (takes_guard answer (f i)) k) ∙ given_left answer (f i) ∙ ap (λ (a : Actor). a.left) (mine (eqb-true i n k)))
    left false k = sym (ap (λ (a : Actor). a.left) (other f i n (takes_guard answer (f i)) k ∙ same))

    drafts : (b : Bool) → (i == n) ≡ b → after.drafts ≡ (if node_of e == n then drafts_given answer (r.actors n).drafts else (r.actors n).drafts)
    drafts true k =
        ap (λ (a : Actor). a.drafts) (here f i n (takes_guard answer (f i)) k) ∙ drafts_same answer (f i) ∙ ap (λ (a : Actor). drafts_given answer a.drafts) (mine (eqb-true i n k))
        ∙ sym (cond-true (node_of e == n) _ _ (ap (λ x. x == n) own ∙ k))
    drafts false k =
        ap (λ (a : Actor). a.drafts) (other f i n (takes_guard answer (f i)) k ∙ same) ∙ sym (cond-false (node_of e == n) _ _ (ap (λ x. x == n) own ∙ k))

said_call : (r : Running) (i : ℕ) (s : Statement) (left : List Statement) (es : List Event) (last : List Statement) → IsNext r i s left → is_inside r i s ≡ false → (a : Actor)
    → a ≡ record (r.actors i) { left = left } → Says i (step (event.Call i (next_call r i s)) r.world).world (takes_guard (step (event.Call i (next_call r i s)) r.world).answer a) last es
    → Says i r.world (r.actors i) last (event.Call i (next_call r i s) ∷ es)
said_call r i s left es last next out a same h = record {
  reached = s ∷ h.reached;
  parts = next.0 ∙ ap (λ ss. s ∷ ss) (sym (given_left done.answer a ∙ ap (λ (x : Actor). x.left) same) ∙ h.parts);
  calls = script.made s (next_call r i s) next.1 (call_for (r.world.nodes i) (r.actors i) s out)
      (subst (λ d. CallsAre i done.world d h.reached es) (drafts_same done.answer a ∙ ap (λ (x : Actor). drafts_given done.answer x.drafts) same) h.calls);
}
  where
    done : WorldStep
    done = step (event.Call i (next_call r i s)) r.world

said_change : (r : Running) (i : ℕ) (s : Statement) (left : List Statement) (es : List Event) (last : List Statement) → IsNext r i s left → is_inside r i s ≡ true
    → Says i r.world (after_change s (record (r.actors i) { left = left })) last es → Says i r.world (r.actors i) last es
said_change r i s left es last next inside h =
    let a : Actor = record (r.actors i) { left = left } in
    let same = call_of_left (r.world.nodes i) (r.actors i) left s in
    let k = change_of (r.world.nodes i) a s (ap (λ c. is_change s && is_allowed (verdict (r.world.nodes i) c)) same ∙ inside) in
    record { reached = s ∷ h.reached; parts = next.0 ∙ ap (λ ss. s ∷ ss) (sym k.2 ∙ h.parts); calls = script.left_out s (call_of (r.world.nodes i) a s) next.1 k.0 k.1 h.calls }

not_call : (n : ℕ) (e : Event) → is_call_event e ≡ false → calls_at n e ≡ false
not_call n (event.Call i c) h = cc
not_call n (event.Collect i) h = refl
not_call n (event.Handle i place) h = refl
not_call n (event.Carry i place) h = refl

says : (n : ℕ) {r end : Running} {es : List Event} → Follows r es end → Says n r.world (r.actors n) (end.actors n).left es
says n (ended {r = r}) = record { reached = []; parts = refl; calls = script.ended }
says n {r = r} {end = end} (changes {es = es} i s left few next inside f) = go (i == n) refl (says n f)
  where
    last : List Statement
    last = (end.actors n).left

    a : Actor
    a = after_change s (record (r.actors i) { left = left })

    go : (b : Bool) → (i == n) ≡ b → Says n r.world (at_node r.actors i a n) last es → Says n r.world (r.actors n) last es
    go true k h =
        let own = eqb-true i n k in
        subst (λ m. Says m r.world (r.actors m) last es) own (said_change r i s left es last next inside (subst (λ m. Says m r.world a last es) (sym own) (subst (λ x. Says n r.world x last es) (here r.actors i n a k) h)))
    go false k h = subst (λ x. Says n r.world x last es) (other r.actors i n a k) h
says n {r = r} {end = end} (calls {es = es} i s left few next out f) = go (i == n) refl (says n f)
  where
    last : List Statement
    last = (end.actors n).left

    e : Event
    e = event.Call i (next_call r i s)

    a : Actor
    a = record (r.actors i) { left = left }

    p : ℕ → Actor
    p = at_node r.actors i a

    go : (b : Bool) → (i == n) ≡ b → Says n (step e r.world).world (at_node p i (takes_guard (step e r.world).answer (p i)) n) last es → Says n r.world (r.actors n) last (e ∷ es)
    go true k h =
        let own = eqb-true i n k in
        subst (λ m. Says m r.world (r.actors m) last (e ∷ es)) own
        (said_call r i s left es last next out (p i) (here r.actors i i a (eq-eqb i i refl))
        (subst (λ m. Says m (step e r.world).world (takes_guard (step e r.world).answer (p i)) last es) (sym own)
        (subst (λ x. Says n (step e r.world).world x last es) (here p i n (takes_guard (step e r.world).answer (p i)) k) h)))
    go false k h = said_passes n r i e es last p (other r.actors i n a k) refl k false k h
says n {r = r} {end = end} (happens {es = es} i e own quiet may f) = said_passes n r i e es (end.actors n).left r.actors refl own (not_call n e quiet) (i == n) refl (says n f)

pub calls_follow : (count capacity : ℕ) (blocks : List (List Statement)) (run : List Event) (end : Running) → Follows (running count capacity blocks) run end → (n : ℕ)
    → CallsAreThose n (running count capacity blocks).world (block_of blocks n) (end.actors n).left run
calls_follow count capacity blocks run end f n = let h = says n f in record { reached = h.reached; parts = h.parts; calls = h.calls }
