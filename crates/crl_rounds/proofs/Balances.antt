-- What stands for a collective call that waits is balanced by each deed.
use Rattle.std.proofs.Common.{◌≡◌, ℕ, ◌+◌, ◌-◌, ◌<◌, ◌==◌, Bool, true, false, None, Some, List, [], ◌∷◌, if◌then◌else◌, refl, ap, sym, ◌∙◌, subst, arith}
use Rattle.std.specs.List.{AllByRecursion}
use Rattle.std.proofs.lemmas.Bool.{cond-true, eqb-true, eqb-false, eq-eqb}
use Rattle.crl_model.specs.declared.collective.Part.{Part}
use Rattle.crl_model.specs.declared.collective.Fold.{Fold}
use Rattle.crl_model.specs.declared.call.CallKind.{CallKind}
use Rattle.crl_model.specs.declared.message.Message.{Message}
use Rattle.crl_model.specs.declared.message.Kind.{Kind}
use Rattle.crl_model.specs.declared.message.Kind.TheVariants as kind
use Rattle.crl_model.specs.Names.{at_node}
use Rattle.crl_model.specs.FoldOf.{fold_of}
use Rattle.crl_protocol.specs.Gathering.{Gathering, all_parts, awaits}
use Rattle.crl_protocol.specs.Node.{Node, ForRound, Activity, Free, Waiting, Outcome}
use Rattle.crl_protocol.specs.Calls.{results}
use Rattle.crl_deeds.specs.Deeds.{FreeIf, Cause, Calls, Hears, with_parts, next_round, Rounds, comes_away, comes_home, comes_last, part_comes, part_last, part_last_idle, result_comes, Idles, Deed, copies, lives, rounds, notes, refuses, idles}
use Rattle.crl_model.specs.declared.call.Call.{Call}
use Rattle.crl_model.specs.declared.call.Call.TheVariants as call
use Rattle.crl_model.specs.declared.call.Refusal.{Refusal}
use Rattle.crl_model.specs.declared.call.Refusal.TheVariants as refusal
use Rattle.crl_model.specs.declared.entry.Place.TheVariants.{Round}
use Rattle.crl_model.specs.declared.entry.What.TheVariants as what
use Rattle.crl_model.specs.Calls.{kind_of}
use Rattle.crl_machine.specs.SingleMachine.{State}
use Rattle.crl_protocol.specs.Verdict.{verdict, word_of, place_of}
use Rattle.crl_deeds.proofs.Laws.{none_to, no_wait_as}
use Rattle.crl_deeds.specs.NodeFacts.{Leaves, Fits}
use Rattle.crl_deeds.specs.Tokens.{weigh, waited, Balance, came}
use Rattle.crl_deeds.specs.Turns.{Came}
use Rattle.crl_rounds.proofs.States.{NotMixed, refused_same, same_self, all_same, all_fit}
use Rattle.crl_rounds.specs.Standing.{round_awaited, IsBetween, StandsIn, Stands, FitsRounds}
use Rattle.crl_rounds.proofs.Still.{IsOtherKind, IsOther, IsOtherCause, Still, still_copies, still_lives, still_notes, cause_copies, cause_lives, refused_apart}
use Rattle.crl_rounds.proofs.Counts.{of_round, token_kind, token, there, gathered, gathering, waits_call, waits_round, one_round, at_most_one, none_there, awaits_none, gathers_some, waits_in, there_put, all_there, results_before, results_at, Facts}

-- the tokens with a part more, with all parts, and of the results
put_gathered : (i j : ℕ) (from : ℕ) (p : Part) (g : Gathering) → g.parts from ≡ None → gathered i j (with_parts from p g) ≡ gathered i j g + (if from == i then of_round g.round j else 0)
put_gathered i j from p g e = go (g.round == j)
  where
    go : (b : Bool) → (if b then there (at_node g.parts from (Some p) i) else 0) ≡ (if b then there (g.parts i) else 0) + (if from == i then (if b then 1 else 0) else 0)
    go true = there_put g.parts from p i e
    go false = let z = none_to (from == i) 0 in omega arith

pub full_gathered : (i j count : ℕ) (from : ℕ) (p : Part) (ps : List Part) (g : Gathering) → g.parts from ≡ None → all_parts 0 count (at_node g.parts from (Some p)) ≡ Some ps → i < count
    → gathered i j g + (if from == i then of_round g.round j else 0) ≡ of_round g.round j
full_gathered i j count from p ps g e all few =
    let one = all_there 0 count (at_node g.parts from (Some p)) ps i all (omega arith) (omega arith) in
    sym (put_gathered i j from p g e) ∙ ap (λ x. if g.round == j then x else 0) one

results_weigh : (i j count : ℕ) (n : Node) (round : ℕ) (fold : Fold) → n.nodes ≡ count → i < count → weigh (token i j) (results n round fold) + (if 0 == i then of_round round j else 0) ≡ of_round round j
results_weigh i j count n round fold few small = go (0 == i) refl
  where
    go : (b : Bool) → (0 == i) ≡ b → weigh (token i j) (results n round fold) + (if b then of_round round j else 0) ≡ of_round round j
    go true e = let same = eqb-true 0 i e in let none = results_before i j n 1 (n.nodes - 1) round fold (omega arith) in omega arith
    go false e = let ne = eqb-false 0 i e in let all = results_at i j n 1 (n.nodes - 1) round fold (grind arith) (grind arith) in omega arith

none_next : (i j : ℕ) (n : Node) (g : Gathering) → (if n.me == 0 then gathered i j (next_round g) else 0) ≡ 0
none_next i j n g = ap (λ x. if n.me == 0 then x else 0) (none_to (g.round + 1 == j) 0) ∙ none_to (n.me == 0) 0

-- node 0 waits in the round that it completes
pub open_first : (count : ℕ) (g : Gathering) (activities : ℕ → Activity) (n : Node) (cause : Cause) → Facts count g activities n cause → n.me ≡ 0 → FreeIf cause n → came (token 0 n.gathering.round) n.me cause ≡ 0 → n.activity ≡ Free → n.gathering.parts 0 ≡ None
open_first count g activities n cause f first free none idle =
    let k = n.gathering.round in
    let p = f.portion 0 k (subst (λ x. x < count) first f.small) in
    let b : gathering 0 k n ≡ gathered 0 k n.gathering = cond-true (n.me == 0) _ _ (eq-eqb n.me 0 first) in
    let d : gathered 0 k n.gathering ≡ there (n.gathering.parts 0) = cond-true (k == k) _ _ (eq-eqb k k refl) in
    let c : waits_round k (activities 0) ≡ 0 = ap (waits_round k) (ap activities (sym first) ∙ f.here ∙ idle) in
    none_there (n.gathering.parts 0) (omega arith)

pub waits_first : (count : ℕ) (g : Gathering) (activities : ℕ → Activity) (n : Node) (from round : ℕ) (part : Part) (ps : List Part) → Facts count g activities n (Hears from (kind.Come round part))
    → awaits from n.gathering ≡ true → all_parts 0 n.nodes (at_node n.gathering.parts from (Some part)) ≡ Some ps → (k : CallKind) × (n.activity ≡ Waiting (ForRound n.gathering.round k))
waits_first count g activities n from round part ps f a all =
    let first = f.heard.1 in
    let k = n.gathering.round in
    let same : round ≡ k = f.heard.2 ∙ ap (λ (x : Gathering). x.round) (sym (f.first first)) in
    let p = f.portion 0 k (subst (λ x. x < count) first f.small) in
    let b : gathering 0 k n ≡ gathered 0 k n.gathering = cond-true (n.me == 0) _ _ (eq-eqb n.me 0 first) in
    let full = full_gathered 0 k n.nodes from part ps n.gathering (awaits_none from n.gathering a) all (subst (λ x. 0 < x) (sym f.few) (subst (λ x. x < count) first f.small)) in
    let came_one : (if from == 0 then of_round round k else 0) ≡ (if from == 0 then of_round k k else 0) = ap (λ r. if from == 0 then of_round r k else 0) same in
    let one = one_round k in
    let c : waits_round k (activities 0) ≡ waits_round k n.activity = ap (waits_round k) (ap activities (sym first) ∙ f.here) in
    waits_in n.activity k (omega arith)

round_balance : (i j count : ℕ) (g : Gathering) (activities : ℕ → Activity) (n : Node) (cause : Cause) (o : Outcome) → Rounds n cause o → Facts count g activities n cause → FreeIf cause n → i < count
    → Balance (token i j) (gathering i j) (waits_round j) i n (came (token i j) n.me cause) o
round_balance i j count g acts n cause o (comes_away part other fits) f free small = let was = no_wait_as (waits_round j) i n Free free refl in omega arith
round_balance i j count g acts n cause o (comes_home part first fits all) f free small =
    let me : n.me ≡ 0 = eqb-true n.me 0 first in
    let was = no_wait_as (waits_round j) i n Free free refl in
    let put = put_gathered i j 0 part n.gathering (open_first count g acts n cause f me free refl free) in
    let before : gathering i j n ≡ gathered i j n.gathering = cond-true (n.me == 0) _ _ first in
    let after : gathering i j o.node ≡ gathered i j (with_parts 0 part n.gathering) = cond-true (n.me == 0) _ _ first in
    let next : n.rounds + 1 ≡ n.gathering.round = f.between (ap round_awaited free) ∙ ap (λ (x : Gathering). x.round) (sym (f.first me)) in
    let now : waited (waits_round j) i o.node ≡ (if 0 == i then of_round n.gathering.round j else 0) = ap (λ m. if m == i then of_round (n.rounds + 1) j else 0) me ∙ ap (λ r. if 0 == i then of_round r j else 0) next in omega arith
round_balance i j count g acts n cause o (comes_last part parts first fits all) f free small =
    let me : n.me ≡ 0 = eqb-true n.me 0 first in
    let was = no_wait_as (waits_round j) i n Free free refl in
    let now : waited (waits_round j) i o.node ≡ 0 = no_wait_as (waits_round j) i n Free free refl in
    let full = full_gathered i j n.nodes 0 part parts n.gathering (open_first count g acts n cause f me free refl free) all (subst (λ x. i < x) (sym f.few) small) in
    let before : gathering i j n ≡ gathered i j n.gathering = cond-true (n.me == 0) _ _ first in
    let after = none_next i j n n.gathering in
    let next : n.rounds + 1 ≡ n.gathering.round = f.between (ap round_awaited free) ∙ ap (λ (x : Gathering). x.round) (sym (f.first me)) in
    let sent = results_weigh i j count n (n.rounds + 1) (fold_of parts) f.few small in
    let rounded : of_round (n.rounds + 1) j ≡ of_round n.gathering.round j = ap (λ r. of_round r j) next in
    let rounded_if : (if 0 == i then of_round (n.rounds + 1) j else 0) ≡ (if 0 == i then of_round n.gathering.round j else 0) = ap (λ r. if 0 == i then of_round r j else 0) next in
    omega arith
round_balance i j count g acts n cause o (part_comes from round part a all) f free small =
    let me = f.heard.1 in
    let same : round ≡ n.gathering.round = f.heard.2 ∙ ap (λ (x : Gathering). x.round) (sym (f.first me)) in
    let first = eq-eqb n.me 0 me in
    let put = put_gathered i j from part n.gathering (awaits_none from n.gathering a) in
    let before : gathering i j n ≡ gathered i j n.gathering = cond-true (n.me == 0) _ _ first in
    let after : gathering i j o.node ≡ gathered i j (with_parts from part n.gathering) = cond-true (n.me == 0) _ _ first in
    let it : (if from == i then of_round round j else 0) ≡ (if from == i then of_round n.gathering.round j else 0) = ap (λ r. if from == i then of_round r j else 0) same in omega arith
round_balance i j count g acts n cause o (part_last from round part parts mine k e a all) f free small =
    let me = f.heard.1 in
    let same : round ≡ n.gathering.round = f.heard.2 ∙ ap (λ (x : Gathering). x.round) (sym (f.first me)) in
    let first = eq-eqb n.me 0 me in
    let full = full_gathered i j n.nodes from part parts n.gathering (awaits_none from n.gathering a) all (subst (λ x. i < x) (sym f.few) small) in
    let before : gathering i j n ≡ gathered i j n.gathering = cond-true (n.me == 0) _ _ first in
    let after = none_next i j n n.gathering in
    let sent = results_weigh i j count n n.gathering.round (fold_of parts) f.few small in
    let it : (if from == i then of_round round j else 0) ≡ (if from == i then of_round n.gathering.round j else 0) = ap (λ r. if from == i then of_round r j else 0) same in
    let own = waits_first count g acts n from round part parts f a all in
    let was : waited (waits_round j) i n ≡ (if 0 == i then of_round n.gathering.round j else 0) = ap (λ m. if m == i then waits_round j n.activity else 0) me ∙ ap (λ a. if 0 == i then waits_round j a else 0) own.1 in
    let now : waited (waits_round j) i o.node ≡ 0 = none_to (n.me == i) 0 in omega arith
round_balance i j count g acts n cause o (part_last_idle from round part parts idle a all) f free small =
    let own = waits_first count g acts n from round part parts f a all in absurd (idle n.gathering.round own.0 own.1)
round_balance i j count g acts n cause o (result_comes from round fold k e) f free small =
    let was : waited (waits_round j) i n ≡ (if n.me == i then of_round round j else 0) = ap (λ a. if n.me == i then waits_round j a else 0) e in
    let now : waited (waits_round j) i o.node ≡ 0 = none_to (n.me == i) 0 in omega arith

-- nothing of rounds
weigh_other : (i j : ℕ) (ms : List Message) → AllByRecursion IsOther ms → weigh (token i j) ms ≡ 0
weigh_other i j [] h = refl
weigh_other i j (m ∷ ms) h = let rest = weigh_other i j ms h.1 in let z = none m.kind h.0 in omega arith
  where
    none : (k : Kind) → IsOtherKind k → token_kind i j m.sender m.addressee k ≡ 0
    none (kind.Come round part) w = absurd w
    none (kind.Result round fold) w = absurd w
    none _ w = refl

pub came_other : (i j me : ℕ) (cause : Cause) → IsOtherCause cause → came (token i j) me cause ≡ 0
came_other i j me (Calls c) h = refl
came_other i j me (Hears from (kind.Come round part)) h = absurd h
came_other i j me (Hears from (kind.Result round fold)) h = absurd h
came_other i j me (Hears from _) h = refl

still_balance : (i j : ℕ) (n : Node) (cause : Cause) (o : Outcome) → o.node.me ≡ n.me → Still n o → came (token i j) n.me cause ≡ 0 → Balance (token i j) (gathering i j) (waits_round j) i n (came (token i j) n.me cause) o
still_balance i j n cause o me s none =
    let posts = weigh_other i j o.posts s.posts in
    let g : gathering i j o.node ≡ gathering i j n = ap (λ m. if m == 0 then gathered i j o.node.gathering else 0) me ∙ ap (λ x. if n.me == 0 then gathered i j x else 0) s.gathering in
    let a : waited (waits_round j) i o.node ≡ waited (waits_round j) i n = ap (λ m. if m == i then waits_round j o.node.activity else 0) me ∙ ap (λ x. if n.me == i then waits_call j x else 0) s.awaited in omega arith

-- A deed that is of no round, and one of a round.
pub data Kinds (count : ℕ) (n : Node) (cause : Cause) (o : Outcome) : Type 0 where
  of_other : Still n o → ((i j : ℕ) → i < count → came (token i j) n.me cause ≡ 0) → Kinds count n cause o
  of_rounds : Rounds n cause o → Kinds count n cause o

fit_refused : (n : Node) (c : Call) (why : Refusal) (k : ℕ) (s : State) → verdict n c ≡ Some why → n.activity ≡ Free → Stands k s n.me n → FitsRounds s n.me (what.Refused (word_of c) (place_of n c) why)
fit_refused n (call.Come part) why k s e free h = go why (refused_apart n (call.Come part) why e) (subst (λ a. StandsIn k s n.me n.rounds (round_awaited a)) free h.call)
  where
    go : (why : Refusal) → NotMixed why → IsBetween k s n.me n.rounds → FitsRounds s n.me (what.Refused (kind_of part) (Round (n.rounds + 1)) why)
    go refusal.Mixed apart b = absurd apart
    go _ apart b = let c = h.came in let t = b.told in (omega arith, omega arith)
fit_refused n _ why k s e free h = tt

idle_none : (count : ℕ) (g : Gathering) (activities : ℕ → Activity) (n : Node) (cause : Cause) → Idles cause n → Facts count g activities n cause → (i j : ℕ) → i < count → came (token i j) n.me cause ≡ 0
idle_none count g acts n (Calls c) h f i j small = refl
idle_none count g acts n (Hears from (kind.Come round part)) h f i j small =
    let me = f.heard.1 in
    let k = n.gathering.round in
    let same : round ≡ k = f.heard.2 ∙ ap (λ (x : Gathering). x.round) (sym (f.first me)) in
    let p = f.portion from k f.heard.0 in
    let a : gathering from k n ≡ gathered from k n.gathering = cond-true (n.me == 0) _ _ (eq-eqb n.me 0 me) in
    let b : gathered from k n.gathering ≡ there (n.gathering.parts from) = cond-true (k == k) _ _ (eq-eqb k k refl) in
    let d = gathers_some from n.gathering h in
    let e : came (token from k) n.me (Hears from (kind.Come round part)) ≡ of_round round k = cond-true (from == from) _ _ (eq-eqb from from refl) in
    let l : of_round round k ≡ 1 = ap (λ r. of_round r k) same ∙ one_round k in
    let most = at_most_one k (round_awaited (acts from)) in absurd (omega arith)
idle_none count g acts n (Hears from (kind.Result round fold)) h f i j small =
    let p = f.portion n.me round f.small in
    let e : came (token n.me round) n.me (Hears from (kind.Result round fold)) ≡ of_round round round = cond-true (n.me == n.me) _ _ (eq-eqb n.me n.me refl) in
    let l = one_round round in
    let c : waits_round round (acts n.me) ≡ waits_round round n.activity = ap (waits_round round) f.here in
    let w = waits_in n.activity round (omega arith) in absurd (h w.0 w.1)
idle_none count g acts n (Hears from _) h f i j small = refl

pub kinds_of : (count j : ℕ) (g : Gathering) (activities : ℕ → Activity) (n : Node) (cause : Cause) (o : Outcome) → Deed n cause o → Fits j n → Came Leaves n.me cause → FreeIf cause n → Facts count g activities n cause → Kinds count n cause o
kinds_of count j g acts n cause o (copies c) t away free f = of_other (still_copies j n cause o c t away free) (λ i j small. came_other i j n.me cause (cause_copies n cause o c))
kinds_of count j g acts n cause o (lives c) t away free f = of_other (still_lives j n cause o c t free) (λ i j small. came_other i j n.me cause (cause_lives n cause o c))
kinds_of count j g acts n cause o (rounds c) t away free f = of_rounds c
kinds_of count j g acts n cause o (notes {m = m} c) t away free f =
    let s = still_notes n _ _ m c in
    of_other (record { rounds = s.1; gathering = s.2; awaited = ap round_awaited s.3; same = λ x. all_same x o.entries (s.0, tt); fit = λ k x h. all_fit x o.entries (s.0, tt); posts = tt }) (λ i j small. refl)
kinds_of count j g acts n cause o (refuses c why v) t away free f =
    of_other (record { rounds = refl; gathering = refl; awaited = refl; same = λ x. refused_same x n.me (word_of c) (place_of n c) why (refused_apart n c why v); fit = λ k x h. (fit_refused n c why k x v free h, tt); posts = tt }) (λ i j small. refl)
kinds_of count j g acts n cause o (idles h) t away free f =
    of_other (record { rounds = refl; gathering = refl; awaited = refl; same = λ x. same_self x; fit = λ k x w. tt; posts = tt }) (idle_none count g acts n cause h f)

pub deed_balance : (i j count : ℕ) (g : Gathering) (activities : ℕ → Activity) (n : Node) (cause : Cause) (o : Outcome) → Kinds count n cause o → o.node.me ≡ n.me → Facts count g activities n cause → FreeIf cause n → i < count
    → Balance (token i j) (gathering i j) (waits_round j) i n (came (token i j) n.me cause) o
deed_balance i j count g acts n cause o (of_other s none) me f free small = still_balance i j n cause o me s (none i j small)
deed_balance i j count g acts n cause o (of_rounds c) me f free small = round_balance i j count g acts n cause o c f free small
