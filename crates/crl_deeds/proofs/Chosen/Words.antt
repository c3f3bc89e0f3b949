-- What follows a script is what some words choose.
use Rattle.std.proofs.Common.{◌≡◌, ℕ, zero, suc, ◌+◌, ◌-◌, ◌<◌, ◌≤◌, ◌==◌, true, false, if◌then◌else◌, List, [], ◌∷◌, length, refl, ap, sym, ◌∙◌, subst, arith}
use Rattle.std.proofs.lemmas.Bool.{and_parts, ltb-true, cond-false, ne_eqb}
use Rattle.crl_model.specs.declared.choice.Choice.{Choice}
use Rattle.crl_model.specs.declared.choice.Choice.TheVariants as choice
use Rattle.crl_model.specs.declared.event.Event.{Event}
use Rattle.crl_model.specs.declared.event.Event.TheVariants as event
use Rattle.crl_protocol.specs.Parcels.{Piece}
use Rattle.crl_model.specs.declared.statement.Statement.{Statement}
use Rattle.crl_protocol.specs.Node.{Activity, Free, Waiting, Ready}
use Rattle.crl_protocol.specs.World.{is_enabled, is_ready}
use Rattle.crl_protocol.specs.Chosen.{Running, next_of, nexts_from, handles_of, handles_from, carries_of, choices, goes_on, takes_statement, takes_choice, takes_choice_at, turn, turns_from}
use Rattle.crl_deeds.specs.Laws.{IsNext, node_of, is_call_event, Follows, ended, changes, calls, happens}
use Rattle.crl_deeds.proofs.Chosen.Followed.{nexts_gather, handles_gather, carries_gather, stated, states_is}
use Rattle.crl_deeds.proofs.Chosen.Lists.{At, at_head, at_tail, at_left, at_right, at_gathered, chosen_at}

-- Each choice that may be taken is one of the choices.
among_nexts : (r : Running) (i : ℕ) (c : Choice) → i < r.world.count → At c (next_of i (r.actors i).left (r.world.nodes i).activity) → At c (choices r)
among_nexts r i c h a =
    at_left c (nexts_from 0 r.world.count r) _
    (subst (λ cs. At c cs) (sym (nexts_gather r 0 r.world.count))
    (at_gathered c _ 0 r.world.count i h (subst (λ j. At c (next_of j (r.actors j).left (r.world.nodes j).activity)) (omega arith) a)))

among_handles : (r : Running) (i : ℕ) (c : Choice) → i < r.world.count → At c (handles_of i 0 (r.world.nodes i).inbox) → At c (choices r)
among_handles r i c h a =
    at_right c (nexts_from 0 r.world.count r) _
    (at_left c (handles_from 0 r.world.count r) _
    (subst (λ cs. At c cs) (sym (handles_gather r 0 r.world.count))
    (at_gathered c _ 0 r.world.count i h (subst (λ j. At c (handles_of j 0 (r.world.nodes j).inbox)) (omega arith) a))))

among_carries : (r : Running) (i : ℕ) (c : Choice) → i < r.world.count → At c (carries_of i 0 (r.world.nodes i).outbox) → At c (choices r)
among_carries r i c h a =
    at_right c (nexts_from 0 r.world.count r) _
    (at_right c (handles_from 0 r.world.count r) _
    (subst (λ cs. At c cs) (sym (carries_gather r 0 r.world.count))
    (at_gathered c _ 0 r.world.count i h (subst (λ j. At c (carries_of j 0 (r.world.nodes j).outbox)) (omega arith) a))))

at_handle : (i place m : ℕ) (ms : List Piece) → m < length ms → At (choice.Handle i (place + m)) (handles_of i place ms)
at_handle i place m [] h = absurd (omega arith)
at_handle i place zero (x ∷ ms) h = subst (λ p. At (choice.Handle i p) (choice.Handle i place ∷ handles_of i (place + 1) ms)) (omega arith) (at_head _ _)
at_handle i place (suc m) (x ∷ ms) h =
    subst (λ p. At (choice.Handle i p) (choice.Handle i place ∷ handles_of i (place + 1) ms)) (omega arith) (at_tail _ _ _ (at_handle i (place + 1) m ms (omega arith)))

at_carry : (i place m : ℕ) (ms : List Piece) → m < length ms → At (choice.Carry i (place + m)) (carries_of i place ms)
at_carry i place m [] h = absurd (omega arith)
at_carry i place zero (x ∷ ms) h = subst (λ p. At (choice.Carry i p) (choice.Carry i place ∷ carries_of i (place + 1) ms)) (omega arith) (at_head _ _)
at_carry i place (suc m) (x ∷ ms) h =
    subst (λ p. At (choice.Carry i p) (choice.Carry i place ∷ carries_of i (place + 1) ms)) (omega arith) (at_tail _ _ _ (at_carry i (place + 1) m ms (omega arith)))

at_collect : (i : ℕ) (left : List Statement) (a : Activity) → is_ready a ≡ true → At (choice.Collect i) (next_of i left a)
at_collect i left Free h = cc
at_collect i left (Waiting awaited) h = cc
at_collect i left (Ready answer) h = at_head _ _

at_statement : (i : ℕ) (s : Statement) (left all : List Statement) (a : Activity) → all ≡ s ∷ left → a ≡ Free → At (choice.Statement i) (next_of i all a)
at_statement i s left all a e free = rw (e, free) (at_head (choice.Statement i) [])

-- Some word leads to it.
abbrev Reaches : Running → Running → Type 0
Reaches r next = (word : ℕ) × (turn word r ≡ next)

takes_at_place : (c : Choice) (cs : List Choice) (r : Running) (h : At c cs) → takes_choice_at h.place cs r ≡ takes_choice c r
takes_at_place c [] r h = let k = h.within in absurd (omega arith)
takes_at_place c (y ∷ ys) r h = ap (λ x. takes_choice x r) (chosen_at c y ys h)

reaches : (c : Choice) (r : Running) → At c (choices r) → Reaches r (takes_choice c r)
reaches c r h = (h.place, takes_at_place c (choices r) r h)

reaches_statement : (r : Running) (i : ℕ) (s : Statement) (left : List Statement) → i < r.world.count → IsNext r i s left → Reaches r (stated r i s left)
unfolding takes_choice
reaches_statement r i s left h n =
    let found = reaches (choice.Statement i) r (among_nexts r i (choice.Statement i) h (at_statement i s left (r.actors i).left (r.world.nodes i).activity n.0 n.1)) in
    (found.0, found.1 ∙ ap (λ ls. takes_statement i ls r) n.0 ∙ states_is r i s left)

reaches_event : (r : Running) (e : Event) → is_call_event e ≡ false → is_enabled e r.world ≡ true → Reaches r (goes_on (node_of e) e r)
unfolding takes_choice is_enabled
reaches_event r (event.Call i c) b h = cc
reaches_event r (event.Collect i) b h =
    let parts = and_parts _ _ h in
    reaches (choice.Collect i) r (among_nexts r i _ (ltb-true i r.world.count parts.0) (at_collect i (r.actors i).left (r.world.nodes i).activity parts.1))
reaches_event r (event.Handle i place) b h =
    let parts = and_parts _ _ h in
    reaches (choice.Handle i place) r
    (among_handles r i _ (ltb-true i r.world.count parts.0)
    (subst (λ p. At (choice.Handle i p) (handles_of i 0 (r.world.nodes i).inbox)) (omega arith) (at_handle i 0 place (r.world.nodes i).inbox (ltb-true _ _ parts.1))))
reaches_event r (event.Carry i place) b h =
    let parts = and_parts _ _ h in
    reaches (choice.Carry i place) r
    (among_carries r i _ (ltb-true i r.world.count parts.0)
    (subst (λ p. At (choice.Carry i p) (carries_of i 0 (r.world.nodes i).outbox)) (omega arith) (at_carry i 0 place (r.world.nodes i).outbox (ltb-true _ _ parts.1))))

-- Words from the first on, and one before them.
shifted : (u v : ℕ → ℕ) (p k : ℕ) (r : Running) → ((q : ℕ) → p ≤ q → v (q + 1) ≡ u q) → turns_from v (p + 1) k r ≡ turns_from u p k r
shifted u v p zero r h = refl
shifted u v p (suc k) r h =
    shifted u v (p + 1) k (turn (v (p + 1)) r) (λ q l. h q (omega arith)) ∙ ap (λ w. turns_from u (p + 1) k (turn w r)) (h p (omega arith))

abbrev pub IsWorded : Running → Running → Type 0
IsWorded r end = (words : ℕ → ℕ) × (k : ℕ) × (end ≡ turns_from words 1 k r)

abbrev one_before : ℕ → (ℕ → ℕ) → ℕ → ℕ
one_before word words q = if q == 1 then word else words (q - 1)

one_behind : (word : ℕ) (words : ℕ → ℕ) (q : ℕ) → 1 ≤ q → one_before word words (q + 1) ≡ words q
one_behind word words q h = cond-false (q + 1 == 1) _ _ (ne_eqb (q + 1) 1 (λ e. omega arith)) ∙ ap words (omega arith)

worded : (r next end : Running) → Reaches r next → IsWorded next end → IsWorded r end
worded r next end first rest = (
  one_before first.0 rest.0,
  suc rest.1,
  rest.2 ∙ ap (λ x. turns_from rest.0 1 rest.1 x) (sym first.1)
      ∙ sym (shifted rest.0 (one_before first.0 rest.0) 1 rest.1 (turn first.0 r) (one_behind first.0 rest.0)),
)

pub all_worded : {r end : Running} {es : List Event} → Follows r es end → IsWorded r end
all_worded (ended {r = r}) = (λ p. 0, 0, refl)
all_worded {r = r} {end = end} (changes i s left h n e f) =
    let found = reaches_statement r i s left h n in worded r _ end (found.0, found.1 ∙ rw e refl) (all_worded f)
all_worded {r = r} {end = end} (calls i s left h n e f) =
    let found = reaches_statement r i s left h n in worded r _ end (found.0, found.1 ∙ rw e refl) (all_worded f)
all_worded {r = r} {end = end} (happens i e a b c f) =
    let found = reaches_event r e b c in worded r _ end (found.0, found.1 ∙ ap (λ j. goes_on j e r) a) (all_worded f)
