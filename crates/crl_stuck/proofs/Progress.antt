-- Each turn takes a statement, or is an answer that is taken or an event of a message.
use Rattle.std.proofs.Common.{◌≡◌, ℕ, zero, suc, ◌+◌, ◌%◌, ◌<◌, ◌≤◌, ◌==◌, Bool, true, false, if◌then◌else◌, None, Some, Option, List, [], ◌∷◌, ◌++◌, length, get_or, refl, ap, sym, ◌∙◌, subst, arith, length-append}
use Rattle.std.specs.List.{AllByRecursion}
use Rattle.std.proofs.Math.Logic.{◌⊎◌, inl, inr}
use Rattle.std.proofs.lemmas.Bool.{cases_eq, cond_both, cond-true, cond-false, eq-eqb, ne_eqb, eqb-true}
use Rattle.crl_model.specs.declared.call.Call.{Call}
use Rattle.crl_model.specs.declared.choice.Choice.{Choice}
use Rattle.crl_model.specs.declared.choice.Choice.TheVariants as choice
use Rattle.crl_model.specs.declared.event.Event.{Event}
use Rattle.crl_model.specs.declared.event.Event.TheVariants as event
use Rattle.crl_model.specs.declared.statement.Statement.{Statement}
use Rattle.crl_model.specs.Names.{at_node}
use Rattle.crl_protocol.specs.Parcels.{Piece}
use Rattle.crl_protocol.specs.Places.{Taken, take_out}
use Rattle.crl_protocol.specs.Node.{Activity, Free, Waiting, Ready}
use Rattle.crl_protocol.specs.Verdict.{verdict}
use Rattle.crl_protocol.specs.World.{World, step, handles_at, carries}
use Rattle.crl_protocol.specs.Chosen.{Actor, Running, next_of, nexts_from, handles_of, handles_from, carries_of, carries_from, choices, call_of, after_change, is_change, is_allowed, takes_guard, goes_on, with_actor, takes_statement, takes_choice, takes_choice_at, turn, turns_from}
use Rattle.crl_deeds.specs.Laws.{past_statement}
use Rattle.crl_deeds.proofs.Laws.{all_append, all_gathered, chosen_is, nexts_gather, handles_gather, carries_gather, given_left, changed_left}
use Rattle.crl_bound.specs.Counters.{count_calls}
use Rattle.crl_stuck.specs.Ends.{statements_from}

-- The statements that are left.
same_left : (i k : ℕ) (a b : ℕ → Actor) → ((j : ℕ) → (a j).left ≡ (b j).left) → statements_from i k a ≡ statements_from i k b
same_left i zero a b h = refl
same_left i (suc k) a b h = let x = ap (λ (l : List Statement). length l) (h i) in let y = same_left (i + 1) k a b h in omega arith

at_same : (a : ℕ → Actor) (i : ℕ) (b : Actor) → b.left ≡ (a i).left → (j : ℕ) → (at_node a i b j).left ≡ (a j).left
at_same a i b e j = cond_both (i == j) b (a j) (λ (x : Actor). x.left ≡ (a j).left) (λ t. e ∙ ap (λ m. (a m).left) (eqb-true i j t)) (λ t. refl)

left_past : (i k j : ℕ) (a : ℕ → Actor) (b : Actor) → j < i → statements_from i k (at_node a j b) ≡ statements_from i k a
left_past i zero j a b h = refl
left_past i (suc k) j a b h =
    let here = ap (λ (x : Actor). length x.left) (cond-false (j == i) b (a i) (ne_eqb j i (λ e. omega arith))) in
    let rest = left_past (i + 1) k j a b (omega arith) in omega arith

left_taken : (i k j : ℕ) (a : ℕ → Actor) (b : Actor) → i ≤ j → j < i + k → length b.left + 1 ≡ length (a j).left → statements_from i k (at_node a j b) + 1 ≡ statements_from i k a
left_taken i zero j a b l h e = absurd (omega arith)
left_taken i (suc k) j a b l h e = go (cases_eq j i) (λ lower. left_taken (i + 1) k j a b lower (omega arith) e)
  where
    go : (j ≡ i) ⊎ (j ≡ i → ⊥) → (i + 1 ≤ j → statements_from (i + 1) k (at_node a j b) + 1 ≡ statements_from (i + 1) k a) → statements_from i (suc k) (at_node a j b) + 1 ≡ statements_from i (suc k) a
    go (inl same) later =
        let here = ap (λ (x : Actor). length x.left) (cond-true (j == i) b (a i) (eq-eqb j i same)) in
        let there = ap (λ m. length (a m).left) same in
        let rest = left_past (i + 1) k j a b (omega arith) in omega arith
    go (inr other) later =
        let here = ap (λ (x : Actor). length x.left) (cond-false (j == i) b (a i) (ne_eqb j i other)) in
        let rest = later (omega arith) in omega arith

-- The world's nodes are the same.
handled_count : (i : ℕ) (e : Event) (o : Option (Taken Piece)) (w : World) → (handles_at i e o w).world.count ≡ w.count
handled_count i e None w = refl
handled_count i e (Some t) w = refl

carried_count : (i : ℕ) (e : Event) (o : Option (Taken Piece)) (w : World) → (carries i e o w).world.count ≡ w.count
carried_count i e None w = refl
carried_count i e (Some t) w = refl

step_count : (e : Event) (w : World) → (step e w).world.count ≡ w.count
unfolding step
step_count (event.Call i c) w = refl
step_count (event.Collect i) w = refl
step_count (event.Handle i place) w = handled_count i _ (take_out place (w.nodes i).inbox) w
step_count (event.Carry i place) w = carried_count i _ (take_out place (w.nodes i).outbox) w

calls_append : (xs ys : List Event) → count_calls (xs ++ ys) ≡ count_calls xs + count_calls ys
calls_append [] ys = omega arith
calls_append (event.Call i c ∷ xs) ys = let h = calls_append xs ys in omega arith
calls_append (event.Collect i ∷ xs) ys = let h = calls_append xs ys in omega arith
calls_append (event.Handle i place ∷ xs) ys = let h = calls_append xs ys in omega arith
calls_append (event.Carry i place ∷ xs) ys = let h = calls_append xs ys in omega arith

-- From one to the other so many turns were taken, each of which took a statement or was an event that is no call; and
-- each call took a statement.
pub record Took (count k : ℕ) (r v : Running) : Type 0 where
  pub turns : length r.events + count_calls v.events + statements_from 0 count v.actors + k ≤ length v.events + count_calls r.events + statements_from 0 count r.actors
  pub calls : count_calls v.events + statements_from 0 count v.actors ≤ count_calls r.events + statements_from 0 count r.actors
  pub nodes : v.world.count ≡ r.world.count

event_took : (count i : ℕ) (e : Event) (r : Running) → count_calls (e ∷ []) ≡ 0 → Took count 1 r (goes_on i e r)
event_took count i e r none =
    let left = same_left 0 count (goes_on i e r).actors r.actors (at_same r.actors i (takes_guard (step e r.world).answer (r.actors i)) (given_left (step e r.world).answer (r.actors i))) in
    let more = length-append r.events (e ∷ []) in
    let called = calls_append r.events (e ∷ []) in
    record { turns = omega arith; calls = omega arith; nodes = step_count e r.world }

-- a statement that is taken: it changes the draft, or is a call
abbrev Next : ℕ → Running → ℕ → Statement → List Statement → Type 0
Next count r i s left = (i < count) × ((r.actors i).left ≡ s ∷ left)

past_left : (count : ℕ) (r : Running) (i : ℕ) (s : Statement) (left : List Statement) → Next count r i s left → statements_from 0 count (past_statement r i left).actors + 1 ≡ statements_from 0 count r.actors
past_left count r i s left n = let e = ap (λ (l : List Statement). length l) n.1 in left_taken 0 count i r.actors (record (r.actors i) { left = left }) (omega arith) (omega (arith, n.0)) (omega arith)

call_took : (count : ℕ) (r : Running) (i : ℕ) (s : Statement) (left : List Statement) (c : Call) → Next count r i s left → Took count 1 r (goes_on i (event.Call i c) (past_statement r i left))
call_took count r i s left c n =
    let p = past_statement r i left in
    let e = event.Call i c in
    let past = past_left count r i s left n in
    let same = same_left 0 count (goes_on i e p).actors p.actors (at_same p.actors i (takes_guard (step e p.world).answer (p.actors i)) (given_left (step e p.world).answer (p.actors i))) in
    let more = length-append r.events (e ∷ []) in
    let called = calls_append r.events (e ∷ []) in
    record { turns = omega arith; calls = omega arith; nodes = step_count e p.world }

change_took : (count : ℕ) (r : Running) (i : ℕ) (s : Statement) (left : List Statement) → Next count r i s left → Took count 1 r (with_actor i (after_change s ((past_statement r i left).actors i)) (past_statement r i left))
change_took count r i s left n =
    let p = past_statement r i left in
    let past = past_left count r i s left n in
    let same = same_left 0 count (with_actor i (after_change s (p.actors i)) p).actors p.actors (at_same p.actors i (after_change s (p.actors i)) (changed_left s (p.actors i))) in
    record { turns = omega arith; calls = omega arith; nodes = refl }

if_took : (count : ℕ) (b : Bool) (r x y : Running) → Took count 1 r x → Took count 1 r y → Took count 1 r (if b then x else y)
if_took count true r x y h k = h
if_took count false r x y h k = k

statement_took : (count : ℕ) (r : Running) (i : ℕ) (s : Statement) (left : List Statement) → Next count r i s left → Took count 1 r (takes_statement i (s ∷ left) r)
statement_took count r i s left n =
    let c = call_of (r.world.nodes i) (r.actors i) s in
    let goes = call_took count r i s left c n in
    if_took count (is_change s) r _ _ (if_took count (is_allowed (verdict (r.world.nodes i) c)) r _ _ (change_took count r i s left n) goes) goes

-- A choice that may be taken.
abbrev Takes : ℕ → Running → Choice → Type 0
Takes count r (choice.Statement i) = (s : Statement) × (left : List Statement) × Next count r i s left
Takes count r _ = Unit {0}

choice_took : (count : ℕ) (r : Running) (c : Choice) → Takes count r c → Took count 1 r (takes_choice c r)
unfolding takes_choice
choice_took count r (choice.Statement i) (s, left, n) = subst (λ l. Took count 1 r (takes_statement i l r)) (sym n.1) (statement_took count r i s left n)
choice_took count r (choice.Collect i) h = event_took count i (event.Collect i) r refl
choice_took count r (choice.Handle i place) h = event_took count i (event.Handle i place) r refl
choice_took count r (choice.Carry i place) h = event_took count i (event.Carry i place) r refl

next_takes : (count : ℕ) (r : Running) (i : ℕ) (left : List Statement) (a : Activity) → (r.actors i).left ≡ left → i < count → AllByRecursion (Takes count r) (next_of i left a)
next_takes count r i [] Free e h = tt
next_takes count r i (s ∷ left) Free e h = ((s, left, (h, e)), tt)
next_takes count r i left (Waiting awaited) e h = tt
next_takes count r i left (Ready answer) e h = (tt, tt)

handles_take : (count : ℕ) (r : Running) (i place : ℕ) (ms : List Piece) → AllByRecursion (Takes count r) (handles_of i place ms)
handles_take count r i place [] = tt
handles_take count r i place (m ∷ ms) = (tt, handles_take count r i (place + 1) ms)

carries_take : (count : ℕ) (r : Running) (i place : ℕ) (ms : List Piece) → AllByRecursion (Takes count r) (carries_of i place ms)
carries_take count r i place [] = tt
carries_take count r i place (m ∷ ms) = (tt, carries_take count r i (place + 1) ms)

choices_take : (count : ℕ) (r : Running) → r.world.count ≡ count → AllByRecursion (Takes count r) (choices r)
choices_take count r same =
    let all = AllByRecursion (Takes count r) in
    let n = r.world.count in
    all_append (Takes count r) (nexts_from 0 n r) (handles_from 0 n r ++ carries_from 0 n r)
    (subst all (sym (nexts_gather r 0 n)) (all_gathered (Takes count r) (λ j. next_of j (r.actors j).left (r.world.nodes j).activity) 0 n n (omega arith) (λ j h. next_takes count r j _ (r.world.nodes j).activity refl (subst (λ k. j < k) same h))))
    (all_append (Takes count r) (handles_from 0 n r) (carries_from 0 n r)
    (subst all (sym (handles_gather r 0 n)) (all_gathered (Takes count r) (λ j. handles_of j 0 (r.world.nodes j).inbox) 0 n n (omega arith) (λ j h. handles_take count r j 0 (r.world.nodes j).inbox)))
    (subst all (sym (carries_gather r 0 n)) (all_gathered (Takes count r) (λ j. carries_of j 0 (r.world.nodes j).outbox) 0 n n (omega arith) (λ j h. carries_take count r j 0 (r.world.nodes j).outbox))))

-- So many turns are all taken, or no choice is left after fewer.
pub record Stops (words : ℕ → ℕ) (p k : ℕ) (r : Running) : Type 0 where
  pub turns : ℕ
  pub fewer : turns < k
  pub none : choices (turns_from words p turns r) ≡ []

some_turn : (count word : ℕ) (r : Running) → r.world.count ≡ count → (c : Choice) (cs : List Choice) → choices r ≡ c ∷ cs → Took count 1 r (turn word r)
some_turn count word r same c cs e =
    let all = subst (AllByRecursion (Takes count r)) e (choices_take count r same) in
    subst (λ l. Took count 1 r (takes_choice_at word l r)) (sym e) (choice_took count r (get_or (c ∷ cs) (word % length (c ∷ cs)) c) (chosen_is (Takes count r) word c cs all))

pub runs_on : (count : ℕ) (words : ℕ → ℕ) (p k : ℕ) (r : Running) → r.world.count ≡ count → (Stops words p k r) ⊎ (Took count k r (turns_from words p k r))
runs_on count words p zero r same = inr (record { turns = omega arith; calls = omega arith; nodes = refl })
runs_on count words p (suc k) r same = go (choices r) refl (λ e. runs_on count words (p + 1) k (turn (words p) r) e)
  where
    next : Running
    next = turn (words p) r

    then_on : Took count 1 r next → (Stops words (p + 1) k next) ⊎ (Took count k next (turns_from words (p + 1) k next)) → (Stops words p (suc k) r) ⊎ (Took count (suc k) r (turns_from words (p + 1) k next))
    then_on one (inl s) = let f = s.fewer in inl (record { turns = suc s.turns; fewer = omega arith; none = s.none })
    then_on one (inr t) =
        let a = one.turns in let b = one.calls in let c = t.turns in let d = t.calls in
        inr (record { turns = omega arith; calls = omega arith; nodes = t.nodes ∙ one.nodes })

    go : (cs : List Choice) → choices r ≡ cs → (next.world.count ≡ count → (Stops words (p + 1) k next) ⊎ (Took count k next (turns_from words (p + 1) k next))) → (Stops words p (suc k) r) ⊎ (Took count (suc k) r (turns_from words p (suc k) r))
    go [] e later = inl (record { turns = 0; fewer = omega arith; none = e })
    go (c ∷ cs) e later = let one = some_turn count (words p) r same c cs e in then_on one (later (one.nodes ∙ same))

abbrev weight : ℕ → Running → ℕ
weight count x = count_calls x.events + statements_from 0 count x.actors

-- Whatever is taken, no more calls are made than statements are gone.
pub calls_on : (count : ℕ) (words : ℕ → ℕ) (p k : ℕ) (r : Running) → r.world.count ≡ count
    → count_calls (turns_from words p k r).events + statements_from 0 count (turns_from words p k r).actors ≤ count_calls r.events + statements_from 0 count r.actors
calls_on count words p zero r same = omega arith
calls_on count words p (suc k) r same = go (choices r) refl (λ e. calls_on count words (p + 1) k (turn (words p) r) e)
  where
    next : Running
    next = turn (words p) r

    go : (cs : List Choice) → choices r ≡ cs → (next.world.count ≡ count → weight count (turns_from words (p + 1) k next) ≤ weight count next) → weight count (turns_from words (p + 1) k next) ≤ weight count r
    go [] e later =
        let stays : next ≡ r = ap (λ cs. takes_choice_at (words p) cs r) e in
        let rest = later (ap (λ (x : Running). x.world.count) stays ∙ same) in
        let kept : weight count next ≡ weight count r = ap (weight count) stays in
        omega arith
    go (c ∷ cs) e later =
        let one = some_turn count (words p) r same c cs e in
        let rest = later (one.nodes ∙ same) in
        let gone = one.calls in
        omega arith
