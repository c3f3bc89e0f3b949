-- What a typed script and an order choose is a typed run: drafts and guards have bytes.
use Rattle.std.proofs.Common.{◌≡◌, ℕ, zero, suc, ◌+◌, ◌==◌, true, false, None, Some, Option, List, [], ◌∷◌, ◌++◌, length, take, drop, refl, ap, sym, ◌∙◌, subst}
use Rattle.std.specs.Int.{w64}
use Rattle.std.specs.List.{All, AllByRecursion}
use Rattle.std.proofs.lemmas.Bool.{cond_both}
use Rattle.std.proofs.lemmas.List.Elements.{recursion_from_All}
use Rattle.crl_model.specs.declared.name.Name.{Name}
use Rattle.crl_model.specs.declared.call.Call.{Call}
use Rattle.crl_model.specs.declared.call.Call.TheVariants as call
use Rattle.crl_model.specs.declared.call.Refusal.{Refusal}
use Rattle.crl_model.specs.declared.event.Event.{Event}
use Rattle.crl_model.specs.declared.event.Event.TheVariants as event
use Rattle.crl_model.specs.declared.statement.Statement.{Statement}
use Rattle.crl_model.specs.declared.statement.Statement.TheVariants as statement
use Rattle.crl_model.specs.Names.{name_eq, at_name, at_node}
use Rattle.crl_model.specs.Patches.{put_at}
use Rattle.crl_machine.specs.SingleMachine.{State, after_all}
use Rattle.crl_protocol.specs.Node.{Node, Answer, Writing}
use Rattle.crl_protocol.specs.Verdict.{verdict}
use Rattle.crl_protocol.specs.World.{World, new_world, world_of, step, is_enabled, IsRunFrom}
use Rattle.crl_protocol.specs.Chosen.{Actor, Running, block_of, running, draft_of, call_with, call_of, after_change, takes_guard, goes_on}
use Rattle.crl_deeds.specs.Laws.{Follows, ended, changes, calls, happens, is_call_event, next_call, past_statement}
use Rattle.crl_deeds.proofs.Laws.{all_append}
use Rattle.crl_regions.specs.View.{left_by, array_from}
use Rattle.crl_regions.proofs.Laws.{array_accounted}
use Rattle.crl_rounds.specs.Standing.{machine_of}
use Rattle.crl_history.specs.Legal.{AnswerShows}
use Rattle.crl_history.proofs.Laws.{answers_show, machine_then}
use Rattle.crl_framed.specs.Framed.{IsTypedCall, AreTyped}
use Rattle.crl_framed.proofs.Laws.{last_world, last_run}
use Rattle.crl_frames.specs.Frames.{IsByte, AreBytes, BringsTyped, BringTyped, IsTypedStatement, AreTypedStatements}
use Rattle.crl_frames.proofs.Copies.{news}
use Rattle.crl_frames.proofs.Runs.{EventTyped, each_event, event_leaves}
use Rattle.crl_frames.proofs.Spelled.{number_bytes}

-- The array after a run has bytes, and so has a guard that the run's next event gives.
array_bytes : (q : Name) (w : World) (es : List Event) (array : List ℕ) → BringTyped es → AreBytes array → AreBytes (array_from q w es array)
array_bytes q w [] array t a = a
array_bytes q w (e ∷ es) array t a =
    let x = each_event e es t in array_bytes q (step e w).world es _ x.1 (news (left_by q e w) array (event_leaves q e w x.0) a)

abbrev GuardBytes : Answer → Type 0
GuardBytes (Writing guard) = AreBytes guard.bytes
GuardBytes _ = Unit {0}

shown_bytes : (s : State) (a : Answer) → AnswerShows s a → ((q : Name) → AreBytes (s.bytes q)) → GuardBytes a
shown_bytes s (Writing guard) h b = subst AreBytes (sym h) (b guard.name)
shown_bytes s _ h b = tt

both_events : (e : Event) (es : List Event) → EventTyped e → BringTyped es → BringTyped (e ∷ es)
both_events (event.Call i c) es t u = (t, u)
both_events (event.Collect i) es t u = u
both_events (event.Handle i place) es t u = u
both_events (event.Carry i place) es t u = u

more_brought : (run : List Event) (e : Event) → BringTyped run → EventTyped e → BringTyped (run ++ e ∷ [])
more_brought [] e t u = both_events e [] u tt
more_brought (x ∷ run) e t u = let k = each_event x run t in both_events x (run ++ e ∷ []) k.0 (more_brought run e k.1 u)

answer_bytes : (count capacity : ℕ) (run : List Event) (e : Event) → IsRunFrom (new_world count capacity) run → is_enabled e (world_of count capacity run) ≡ true → BringTyped run → EventTyped e
    → GuardBytes (step e (world_of count capacity run)).answer
answer_bytes count capacity run e r may t u =
    let w = world_of count capacity run in
    let more = more_brought run e t u in
    shown_bytes (after_all (machine_of count capacity run) (step e w).entries) (step e w).answer (answers_show count capacity run r e may)
    (λ q. subst (λ (s : State). AreBytes (s.bytes q)) (machine_then count capacity run e)
    (subst AreBytes (sym (array_accounted count capacity (run ++ e ∷ []) q)) (array_bytes q (new_world count capacity) (run ++ e ∷ []) [] more tt)))

-- Drafts, and the calls of statements.
back_of : (n : ℕ) (xs : List ℕ) → AreBytes xs → AreBytes (drop n xs)
back_of zero xs h = h
back_of (suc n) [] h = tt
back_of (suc n) (x ∷ xs) h = back_of n xs h.1

front_of : (n : ℕ) (xs : List ℕ) → AreBytes xs → AreBytes (take n xs)
front_of zero xs h = tt
front_of (suc n) [] h = tt
front_of (suc n) (x ∷ xs) h = (h.0, front_of n xs h.1)

put_bytes : (offset : ℕ) (bytes old : List ℕ) → AreBytes bytes → AreBytes old → AreBytes (put_at offset bytes old)
put_bytes offset bytes old b o =
    all_append IsByte (take offset old ++ bytes) (drop (offset + length bytes) old) (all_append IsByte (take offset old) bytes (front_of offset old o) b) (back_of (offset + length bytes) old o)

record ActorTyped (a : Actor) : Type 0 where
  left : AllByRecursion IsTypedStatement a.left
  drafts : (q : Name) → AreBytes (a.drafts q)

named : (f : Name → List ℕ) (name : Name) (bytes : List ℕ) → AreBytes bytes → ((q : Name) → AreBytes (f q)) → (q : Name) → AreBytes (at_name f name bytes q)
named f name bytes b h q = cond_both (name_eq name q) bytes (f q) AreBytes (λ w. b) (λ w. h q)

change_typed : (s : Statement) (a : Actor) → IsTypedStatement s → ActorTyped a → ActorTyped (after_change s a)
change_typed (statement.Call c) a t h = h
change_typed (statement.Put name offset bytes) a t h = record { left = h.left; drafts = named a.drafts name _ (put_bytes offset bytes (a.drafts name) t.3 (h.drafts name)) h.drafts }
change_typed (statement.Add name offset number) a t h =
    record { left = h.left; drafts = named a.drafts name _ (put_bytes offset _ (a.drafts name) (number_bytes w64 _) (h.drafts name)) h.drafts }

guard_typed : (answer : Answer) (a : Actor) → GuardBytes answer → ActorTyped a → ActorTyped (takes_guard answer a)
guard_typed (Writing guard) a g h = record { left = h.left; drafts = named a.drafts guard.name guard.bytes g h.drafts }
guard_typed _ a g h = h

draft_bytes : (o : Option Refusal) (name : Name) (a : Actor) → ActorTyped a → AreBytes (draft_of o name a)
draft_bytes None name a h = h.drafts name
draft_bytes (Some why) name a h = tt

abbrev CallTyped : Call → Type 0
CallTyped c = IsTypedCall c × BringsTyped c

with_typed : (n : Node) (a : Actor) (c : Call) → CallTyped c → ActorTyped a → CallTyped (call_with n a c)
with_typed n a (call.EndWrite name after) t h = (t.0, draft_bytes (verdict n (call.EndWrite name after)) name a h)
with_typed n a _ t h = t

call_typed : (n : Node) (a : Actor) (s : Statement) → IsTypedStatement s → ActorTyped a → CallTyped (call_of n a s)
call_typed n a (statement.Call c) t h = with_typed n a c t h
call_typed n a (statement.Put name offset bytes) t h = ((t.0, t.1, t.2), tt)
call_typed n a (statement.Add name offset number) t h = (t, tt)

-- A run that follows a typed script.
abbrev AllTyped : Running → Type 0
AllTyped r = (i : ℕ) → ActorTyped (r.actors i)

actor_put : (f : ℕ → Actor) (i : ℕ) (a : Actor) → ActorTyped a → ((j : ℕ) → ActorTyped (f j)) → (j : ℕ) → ActorTyped (at_node f i a j)
actor_put f i a x h j = cond_both (i == j) a (f j) ActorTyped (λ w. x) (λ w. h j)

taken : (r : Running) (i : ℕ) (s : Statement) (left : List Statement) → (r.actors i).left ≡ s ∷ left → AllTyped r → IsTypedStatement s × ActorTyped (record (r.actors i) { left = left })
taken r i s left e h = let x = subst (AllByRecursion IsTypedStatement) e (h i).left in (x.0, record { left = x.1; drafts = (h i).drafts })

no_call : (e : Event) (es : List Event) → is_call_event e ≡ false → AreTyped es × BringTyped es → EventTyped e × AreTyped (e ∷ es) × BringTyped (e ∷ es)
no_call (event.Call i c) es x t = absurd (cc)
no_call (event.Collect i) es x t = (tt, t.0, t.1)
no_call (event.Handle i place) es x t = (tt, t.0, t.1)
no_call (event.Carry i place) es x t = (tt, t.0, t.1)

no_call_typed : (e : Event) → is_call_event e ≡ false → EventTyped e
no_call_typed e x = (no_call e [] x (tt, tt)).0

gone_on : (count capacity : ℕ) (run : List Event) (i : ℕ) (e : Event) (r : Running) → r.world ≡ world_of count capacity run → IsRunFrom (new_world count capacity) run → is_enabled e r.world ≡ true → BringTyped run → EventTyped e → AllTyped r → AllTyped (goes_on i e r)
gone_on count capacity run i e r same s may t u h =
    actor_put r.actors i _ (guard_typed (step e r.world).answer (r.actors i)
    (subst (λ (w : World). GuardBytes (step e w).answer) (sym same) (answer_bytes count capacity run e s (subst (λ (w : World). is_enabled e w ≡ true) same may) t u)) (h i)) h

typed_from : {r end : Running} {es : List Event} → Follows r es end → (count capacity : ℕ) (run : List Event) → r.world ≡ world_of count capacity run → IsRunFrom (new_world count capacity) run → IsRunFrom r.world es → BringTyped run → AllTyped r
    → AreTyped es × BringTyped es
typed_from ended count capacity run same s f t h = (tt, tt)
typed_from {r = r} (changes i s left few next inside follows) count capacity run same before f t h =
    let x = taken r i s left next.0 h in
    typed_from follows count capacity run same before f t (actor_put r.actors i _ (change_typed s (record (r.actors i) { left = left }) x.0 x.1) h)
typed_from {r = r} (calls {es = es} i s left few next out follows) count capacity run same before f t h =
    let x = taken r i s left next.0 h in
    let c = next_call r i s in
    let e = event.Call i c in
    let typed : CallTyped c = call_typed (r.world.nodes i) (r.actors i) s x.0 (h i) in
    let passed : AllTyped (past_statement r i left) = actor_put r.actors i _ x.1 h in
    let world = ap (λ (w : World). (step e w).world) same ∙ sym (last_world (new_world count capacity) run e) in
    let more = last_run (new_world count capacity) run e before (subst (λ (w : World). is_enabled e w ≡ true) same f.0) in
    let rest = typed_from follows count capacity (run ++ e ∷ []) world more f.1 (more_brought run e t typed.1) (gone_on count capacity run i e (past_statement r i left) same before f.0 t typed.1 passed) in
    ((typed.0, rest.0), (typed.1, rest.1))
typed_from {r = r} (happens {es = es} i e own free enabled follows) count capacity run same before f t h =
    let u = no_call_typed e free in
    let world = ap (λ (w : World). (step e w).world) same ∙ sym (last_world (new_world count capacity) run e) in
    let more = last_run (new_world count capacity) run e before (subst (λ (w : World). is_enabled e w ≡ true) same f.0) in
    let rest = typed_from follows count capacity (run ++ e ∷ []) world more f.1 (more_brought run e t u) (gone_on count capacity run i e r same before f.0 t u h) in
    let all = no_call e es free rest in (all.1, all.2)

-- At its start.
inner : (blocks : List (List Statement)) → AllByRecursion (λ block. All IsTypedStatement block) blocks → AllByRecursion (λ block. AllByRecursion IsTypedStatement block) blocks
inner [] h = tt
inner (b ∷ blocks) h = (recursion_from_All IsTypedStatement b h.0, inner blocks h.1)

block_typed : (blocks : List (List Statement)) (i : ℕ) → AllByRecursion (λ block. AllByRecursion IsTypedStatement block) blocks → AllByRecursion IsTypedStatement (block_of blocks i)
block_typed [] i h = tt
block_typed (b ∷ blocks) zero h = h.0
block_typed (b ∷ blocks) (suc i) h = block_typed blocks i h.1

pub follows_typed : (count capacity : ℕ) (blocks : List (List Statement)) (es : List Event) (end : Running) → AreTypedStatements blocks → Follows (running count capacity blocks) es end → IsRunFrom (new_world count capacity) es → AreTyped es × BringTyped es
follows_typed count capacity blocks es end are follows r =
    typed_from follows count capacity [] refl tt r tt
    (λ i. record { left = block_typed blocks i (inner blocks (recursion_from_All (λ block. All IsTypedStatement block) blocks are)); drafts = λ q. tt })
