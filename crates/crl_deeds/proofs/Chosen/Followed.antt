-- The runs that follow a script are those that its choices give.
use Rattle.std.proofs.Common.{◌≡◌, ℕ, zero, suc, ◌+◌, ◌<◌, ◌%◌, ◌==◌, Bool, true, false, ◌&&◌, if◌then◌else◌, List, [], ◌∷◌, ◌++◌, length, get_or, refl, ap, sym, ◌∙◌, subst, append_assoc, arith}
use Rattle.std.specs.List.{AllByRecursion}
use Rattle.std.proofs.lemmas.Bool.{and_from, lt-ltb, eq-eqb, cond-true}
use Rattle.crl_model.specs.declared.choice.Choice.{Choice}
use Rattle.crl_model.specs.declared.choice.Choice.TheVariants as choice
use Rattle.crl_model.specs.declared.event.Event.{Event}
use Rattle.crl_model.specs.declared.event.Event.TheVariants as event
use Rattle.crl_protocol.specs.Parcels.{Piece}
use Rattle.crl_model.specs.declared.statement.Statement.{Statement}
use Rattle.crl_model.specs.Names.{at_node}
use Rattle.crl_protocol.specs.Node.{Activity, Free, Waiting, Ready}
use Rattle.crl_protocol.specs.Verdict.{verdict}
use Rattle.crl_protocol.specs.World.{step, is_enabled, is_ready, account_from, world_after}
use Rattle.crl_protocol.specs.Chosen.{Actor, Running, next_of, nexts_from, handles_of, handles_from, carries_of, carries_from, choices, goes_on, with_actor, after_change, is_change, is_allowed, takes_statement, takes_choice, takes_choice_at, turn, turns_from, running}
use Rattle.crl_deeds.specs.Laws.{IsNext, past_statement, next_call, is_inside, Follows, ended, changes, calls, happens}
use Rattle.crl_deeds.proofs.Chosen.Lists.{all_append, gather, all_gathered, chosen_is}
use Rattle.crl_deeds.proofs.Runs.Grown.{append_nil}

-- The choices of a turn, gathered by node.
pub nexts_gather : (r : Running) (i k : ℕ) → nexts_from i k r ≡ gather (λ j. next_of j (r.actors j).left (r.world.nodes j).activity) i k
nexts_gather r i zero = refl
nexts_gather r i (suc k) = ap (λ cs. next_of i (r.actors i).left (r.world.nodes i).activity ++ cs) (nexts_gather r (i + 1) k)

pub handles_gather : (r : Running) (i k : ℕ) → handles_from i k r ≡ gather (λ j. handles_of j 0 (r.world.nodes j).inbox) i k
handles_gather r i zero = refl
handles_gather r i (suc k) = ap (λ cs. handles_of i 0 (r.world.nodes i).inbox ++ cs) (handles_gather r (i + 1) k)

pub carries_gather : (r : Running) (i k : ℕ) → carries_from i k r ≡ gather (λ j. carries_of j 0 (r.world.nodes j).outbox) i k
carries_gather r i zero = refl
carries_gather r i (suc k) = ap (λ cs. carries_of i 0 (r.world.nodes i).outbox ++ cs) (carries_gather r (i + 1) k)

-- a choice that may be taken
abbrev IsChoice : Running → Choice → Type 0
IsChoice r (choice.Statement i) = (i < r.world.count) × ((r.world.nodes i).activity ≡ Free)
IsChoice r (choice.Collect i) = is_enabled (event.Collect i) r.world ≡ true
IsChoice r (choice.Handle i place) = is_enabled (event.Handle i place) r.world ≡ true
IsChoice r (choice.Carry i place) = is_enabled (event.Carry i place) r.world ≡ true

next_all : (r : Running) (i : ℕ) (left : List Statement) (a : Activity) → (r.world.nodes i).activity ≡ a → i < r.world.count → AllByRecursion (IsChoice r) (next_of i left a)
unfolding is_enabled
next_all r i [] Free e h = tt
next_all r i (s ∷ left) Free e h = ((h, e), tt)
next_all r i left (Waiting awaited) e h = tt
next_all r i left (Ready answer) e h = (and_from _ _ (lt-ltb i r.world.count h) (ap is_ready e), tt)

handles_all : (r : Running) (i place : ℕ) (ms : List Piece) → i < r.world.count → place + length ms ≡ length (r.world.nodes i).inbox
    → AllByRecursion (IsChoice r) (handles_of i place ms)
unfolding is_enabled
handles_all r i place [] h e = tt
handles_all r i place (m ∷ ms) h e =
    (and_from _ _ (lt-ltb i r.world.count h) (lt-ltb place (length (r.world.nodes i).inbox) (omega arith)), handles_all r i (place + 1) ms h (omega arith))

carries_all : (r : Running) (i place : ℕ) (ms : List Piece) → i < r.world.count → place + length ms ≡ length (r.world.nodes i).outbox
    → AllByRecursion (IsChoice r) (carries_of i place ms)
unfolding is_enabled
carries_all r i place [] h e = tt
carries_all r i place (m ∷ ms) h e =
    (and_from _ _ (lt-ltb i r.world.count h) (lt-ltb place (length (r.world.nodes i).outbox) (omega arith)), carries_all r i (place + 1) ms h (omega arith))

choices_all : (r : Running) → AllByRecursion (IsChoice r) (choices r)
choices_all r =
    all_append (IsChoice r) (nexts_from 0 r.world.count r) _
    (subst (λ cs. AllByRecursion (IsChoice r) cs) (sym (nexts_gather r 0 r.world.count))
    (all_gathered (IsChoice r) _ 0 r.world.count r.world.count (omega arith) (λ j h. next_all r j (r.actors j).left (r.world.nodes j).activity refl h)))
    (all_append (IsChoice r) (handles_from 0 r.world.count r) _
    (subst (λ cs. AllByRecursion (IsChoice r) cs) (sym (handles_gather r 0 r.world.count))
    (all_gathered (IsChoice r) _ 0 r.world.count r.world.count (omega arith) (λ j h. handles_all r j 0 (r.world.nodes j).inbox h (omega arith))))
    (subst (λ cs. AllByRecursion (IsChoice r) cs) (sym (carries_gather r 0 r.world.count))
    (all_gathered (IsChoice r) _ 0 r.world.count r.world.count (omega arith) (λ j h. carries_all r j 0 (r.world.nodes j).outbox h (omega arith)))))

-- A statement that is taken: a change that is allowed, or a call.
same_if : (b : Bool) (x y z : Actor) → (if b then x else if b then y else z) ≡ (if b then x else z)
same_if true x y z = refl
same_if false x y z = refl

again : (f : ℕ → Actor) (i : ℕ) (x y : Actor) (m : ℕ) → at_node (at_node f i x) i y m ≡ at_node f i y m
again f i x y m = same_if (i == m) y x (f m)

here : (f : ℕ → Actor) (i : ℕ) (x : Actor) → at_node f i x i ≡ x
here f i x = cond-true (i == i) x (f i) (eq-eqb i i refl)

if_both : (a b : Bool) (x y : Running) → (if a then if b then x else y else y) ≡ (if a && b then x else y)
if_both true b x y = refl
if_both false b x y = refl

-- the run after a statement
abbrev pub stated : Running → ℕ → Statement → List Statement → Running
stated r i s left =
    if is_inside r i s then with_actor i (after_change s (record (r.actors i) { left = left })) r
    else goes_on i (event.Call i (next_call r i s)) (past_statement r i left)

pub states_is : (r : Running) (i : ℕ) (s : Statement) (left : List Statement) → takes_statement i (s ∷ left) r ≡ stated r i s left
states_is r i s left =
    let actor : Actor = record (r.actors i) { left = left } in
    let twice : with_actor i (after_change s ((past_statement r i left).actors i)) (past_statement r i left) ≡ with_actor i (after_change s actor) r =
    ap (λ a. with_actor i (after_change s a) (past_statement r i left)) (here r.actors i actor)
    ∙ ap (λ f. record r { actors = f }) (λ d m. again r.actors i actor (after_change s actor) m d) in
    ap (λ x. if is_change s then if is_allowed (verdict (r.world.nodes i) (next_call r i s)) then x
    else goes_on i (event.Call i (next_call r i s)) (past_statement r i left) else goes_on i (event.Call i (next_call r i s)) (past_statement r i left)) twice
    ∙ if_both (is_change s) (is_allowed (verdict (r.world.nodes i) (next_call r i s))) _ _

-- What the choices give follows the script.
abbrev pub Leads : Running → Running → Type 0
Leads r end = (es : List Event) × Follows r es end

stated_leads : (r end : Running) (es : List Event) (i : ℕ) (s : Statement) (left : List Statement) (b : Bool) → is_inside r i s ≡ b
    → i < r.world.count → IsNext r i s left → Follows (stated r i s left) es end → Leads r end
stated_leads r end es i s left true e h n f = (es, changes i s left h n e (rw e at f))
stated_leads r end es i s left false e h n f = (event.Call i (next_call r i s) ∷ es, calls i s left h n e (rw e at f))

states_lead : (r end : Running) (es : List Event) (i : ℕ) (left : List Statement) → (r.actors i).left ≡ left → i < r.world.count
    → (r.world.nodes i).activity ≡ Free → Follows (takes_statement i left r) es end → Leads r end
states_lead r end es i [] e h free f = (es, f)
states_lead r end es i (s ∷ left) e h free f =
    stated_leads r end es i s left (is_inside r i s) refl h (e, free) (subst (λ x. Follows x es end) (states_is r i s left) f)

takes_lead : (c : Choice) (r end : Running) (es : List Event) → IsChoice r c → Follows (takes_choice c r) es end → Leads r end
unfolding takes_choice
takes_lead (choice.Statement i) r end es h f = states_lead r end es i (r.actors i).left refl h.0 h.1 f
takes_lead (choice.Collect i) r end es h f = (event.Collect i ∷ es, happens i (event.Collect i) refl refl h f)
takes_lead (choice.Handle i place) r end es h f = (event.Handle i place ∷ es, happens i (event.Handle i place) refl refl h f)
takes_lead (choice.Carry i place) r end es h f = (event.Carry i place ∷ es, happens i (event.Carry i place) refl refl h f)

chosen_leads : (word : ℕ) (cs : List Choice) (r end : Running) (es : List Event) → AllByRecursion (IsChoice r) cs → Follows (takes_choice_at word cs r) es end → Leads r end
chosen_leads word [] r end es h f = (es, f)
chosen_leads word (c ∷ cs) r end es h f = takes_lead (get_or (c ∷ cs) (word % length (c ∷ cs)) c) r end es (chosen_is (IsChoice r) word c cs h) f

pub turns_lead : (words : ℕ → ℕ) (p k : ℕ) (r : Running) → Leads r (turns_from words p k r)
turns_lead words p zero r = ([], ended)
turns_lead words p (suc k) r =
    let rest = turns_lead words (p + 1) k (turn (words p) r) in chosen_leads (words p) (choices r) r (turns_from words (p + 1) k (turn (words p) r)) rest.0 (choices_all r) rest.1

-- the events of what follows
pub follow_events : {r end : Running} {es : List Event} → Follows r es end → end.events ≡ r.events ++ es
follow_events (ended {r = r}) = sym (append_nil r.events)
follow_events (changes i s left h n e f) = follow_events f
follow_events {r = r} (calls {es = es} i s left h n e f) = follow_events f ∙ append_assoc r.events (event.Call i (next_call r i s) ∷ []) es
follow_events {r = r} (happens {es = es} i e a b c f) = follow_events f ∙ append_assoc r.events (e ∷ []) es

-- and its world and its entries
pub follow_world : {r end : Running} {es : List Event} → Follows r es end → end.world ≡ world_after r.world es
follow_world (ended {r = r}) = refl
follow_world (changes i s left h n e f) = follow_world f
follow_world (calls i s left h n e f) = follow_world f
follow_world (happens i e a b c f) = follow_world f

pub follow_account : {r end : Running} {es : List Event} → Follows r es end → end.entries ≡ r.entries ++ account_from r.world es
follow_account (ended {r = r}) = sym (append_nil r.entries)
follow_account (changes i s left h n e f) = follow_account f
follow_account {r = r} (calls {es = es} i s left h n e f) =
    let done = step (event.Call i (next_call r i s)) r.world in follow_account f ∙ append_assoc r.entries done.entries (account_from done.world es)
follow_account {r = r} (happens {es = es} i e a b c f) =
    let done = step e r.world in follow_account f ∙ append_assoc r.entries done.entries (account_from done.world es)

-- a run that the choices give, from its start on
pub follow_turns : (count capacity : ℕ) (blocks : List (List Statement)) (words : ℕ → ℕ) (k : ℕ)
    → Follows (running count capacity blocks) (turns_from words 1 k (running count capacity blocks)).events (turns_from words 1 k (running count capacity blocks))
follow_turns count capacity blocks words k =
    let start = running count capacity blocks in
    let led = turns_lead words 1 k start in
    subst (λ es. Follows start es (turns_from words 1 k start)) (sym (follow_events led.1)) led.1
