-- What all nodes have sent, and may still send, is at most what the calls have paid.
use Rattle.std.proofs.Common.{◌≡◌, ℕ, zero, suc, ◌+◌, ◌≤◌, ◌<◌, ◌==◌, Bool, true, false, Some, List, [], ◌∷◌, refl, ap, sym, ◌∙◌, arith}
use Rattle.std.proofs.Math.Logic.{◌⊎◌, inl, inr}
use Rattle.std.proofs.lemmas.Bool.{cond_both, cond-true, cond-false, eqb-true, eqb-false, eq-eqb, ne_eqb, cases_lt}
use Rattle.crl_model.specs.declared.name.Name.{Name}
use Rattle.crl_model.specs.declared.event.Event.{Event}
use Rattle.crl_model.specs.Names.{at_node}
use Rattle.crl_protocol.specs.Parcels.{Piece, pieces_in}
use Rattle.crl_protocol.specs.Places.{Took}
use Rattle.crl_protocol.specs.Node.{Node, Outcome}
use Rattle.crl_protocol.specs.World.{World, note, put_in, commits, steps_node, carries}
use Rattle.crl_deeds.proofs.Laws.{weigh_append, weigh_took, sum_with}
use Rattle.crl_deeds.specs.Tokens.{on_piece, weighs, sum_from, sum}
use Rattle.crl_deeds.specs.Turns.{Frame}
use Rattle.crl_bound.proofs.Costs.{token, cost, whole_all}
use Rattle.crl_bound.proofs.Credits.{name_credit, fixed_credit, sum_names, Distinct, covers}
use Rattle.crl_bound.proofs.Deeds.{Paid}

-- of a node, with so many names of its regions
abbrev pub boxes : (Name → ℕ) → ℕ → Node → ℕ
boxes P nodes n = weighs (token P nodes) n.inbox + weighs (token P nodes) n.outbox

abbrev pub spends : (Name → ℕ) → ℕ → (ℕ → List Name) → Node → ℕ
spends P nodes names n = n.posted + boxes P nodes n + fixed_credit P n + sum_names (name_credit P n) (names n.me)

abbrev pub Budget : (Name → ℕ) → World → ℕ → Type 0
Budget P w budget = (names : ℕ → List Name) → ((i : ℕ) → Distinct (names i)) → sum (spends P w.count names) w ≤ budget

-- sums of two loads that differ at one node
sum_same : (f g : Node → ℕ) (i k : ℕ) (nodes : ℕ → Node) → ((m : ℕ) → i ≤ m → f (nodes m) ≡ g (nodes m)) → sum_from f i k nodes ≡ sum_from g i k nodes
sum_same f g i zero nodes h = refl
sum_same f g i (suc k) nodes h = let a = h i (omega arith) in let b = sum_same f g (i + 1) k nodes (λ m l. h m (omega arith)) in omega arith

sum_change : (f g : Node → ℕ) (i k j : ℕ) (nodes : ℕ → Node) → ((m : ℕ) → (j == m) ≡ false → f (nodes m) ≡ g (nodes m)) → i ≤ j → j < i + k → sum_from f i k nodes + g (nodes j) ≡ sum_from g i k nodes + f (nodes j)
sum_change f g i zero j nodes h l few = absurd (omega arith)
sum_change f g i (suc k) j nodes h l few = go (j == i) refl (λ w. sum_change f g (i + 1) k j nodes h w (omega arith))
  where
    go : (b : Bool) → (j == i) ≡ b → (i + 1 ≤ j → sum_from f (i + 1) k nodes + g (nodes j) ≡ sum_from g (i + 1) k nodes + f (nodes j)) → sum_from f i (suc k) nodes + g (nodes j) ≡ sum_from g i (suc k) nodes + f (nodes j)
    go true e rest =
        let same = eqb-true j i e in
        let left = sum_same f g (i + 1) k nodes (λ m w. h m (ne_eqb j m (λ x. omega arith))) in
        let a : f (nodes j) ≡ f (nodes i) = ap (λ x. f (nodes x)) same in
        let b : g (nodes j) ≡ g (nodes i) = ap (λ x. g (nodes x)) same in omega arith
    go false e rest = let ne = eqb-false j i e in let r = rest (grind arith) in let a = h i e in omega arith

-- an outcome of a node, paid by what came and by its call
pub budget_outcome : (P : Name → ℕ) (w : World) (j : ℕ) (n : Node) (e : Event) (o : Outcome) (came more budget : ℕ) → j < w.count → ((i : ℕ) → (w.nodes i).me ≡ i) → Frame n o.node → n.me ≡ j → o.node.posted ≡ (w.nodes j).posted
    → ((names : ℕ → List Name) → spends P w.count names (w.nodes j) ≡ came + ((w.nodes j).posted + boxes P w.count n + fixed_credit P n + sum_names (name_credit P n) (names j))) → Paid P w.count n o (came + more) → Budget P w budget → Budget P (steps_node j e o w).world (budget + more)
budget_outcome P w j n e o came more budget few mes frame me posted before paid h names distinct =
    let nodes = w.count in
    let after : Node = commits w.events e o in
    let c = covers (name_credit P n) (name_credit P o.node) (cost P nodes o.posts) paid.slack (names j) paid.moved (distinct j) in
    let wider : ℕ → List Name = at_node names j c.names in
    let wide = h wider (λ i. cond_both (j == i) c.names (names i) Distinct (λ x. c.distinct) (λ x. distinct i)) in
    let other = sum_change (spends P nodes names) (spends P nodes wider) 0 nodes j w.nodes (λ m x. same_other m x c.names) (omega arith) (omega arith) in
    let change = sum_with (spends P nodes names) nodes j w.nodes after few in
    let was = before wider in
    let here : sum_names (name_credit P n) (wider j) ≡ sum_names (name_credit P n) c.names = ap (sum_names (name_credit P n)) (cond-true (j == j) c.names (names j) (eq-eqb j j refl)) in
    let mine : sum_names (name_credit P after) (names after.me) ≡ sum_names (name_credit P o.node) (names j) = ap (λ k. sum_names (name_credit P after) (names k)) (frame.me ∙ me) in
    let inbox = ap (weighs (token P nodes)) frame.inbox in
    let outbox = ap (weighs (token P nodes)) frame.outbox in
    let sent = weigh_append (on_piece (token P nodes)) o.node.outbox (pieces_in o.posts) in
    let tokens = whole_all P nodes o.posts in
    let fixed = paid.fixed in
    let paid_names = c.few in omega arith
  where
    same_other : (m : ℕ) → (j == m) ≡ false → (qs : List Name) → spends P w.count names (w.nodes m) ≡ spends P w.count (at_node names j qs) (w.nodes m)
    same_other m x qs =
        let e : names (w.nodes m).me ≡ at_node names j qs (w.nodes m).me = sym (cond-false (j == (w.nodes m).me) qs (names (w.nodes m).me) (ap (λ k. j == k) (mes m) ∙ x)) in
        ap (λ (qs : List Name). (w.nodes m).posted + boxes P w.count (w.nodes m) + fixed_credit P (w.nodes m) + sum_names (name_credit P (w.nodes m)) qs) e

-- a piece that is carried
pub sum_past : (f : Node → ℕ) (i k j : ℕ) (nodes : ℕ → Node) (n : Node) → i + k ≤ j → sum_from f i k (at_node nodes j n) ≡ sum_from f i k nodes
sum_past f i zero j nodes n h = refl
sum_past f i (suc k) j nodes n h =
    let t = sum_past f (i + 1) k j nodes n (omega arith) in
    let e = ap f (cond-false (j == i) n (nodes i) (ne_eqb j i (λ w. omega arith))) in omega arith

pub budget_carried : (P : Name → ℕ) (w : World) (i : ℕ) (e : Event) (p : Piece) (rest : List Piece) (budget : ℕ) → i < w.count → Took p (w.nodes i).outbox rest → Budget P w budget → Budget P (carries i e (Some (record { taken = p; rest = rest })) w).world budget
budget_carried P w i e p rest budget few took h names distinct =
    let took_out = weigh_took (on_piece (token P w.count)) took in
    let one = sum_with (spends P w.count names) w.count i w.nodes after few in
    let all = h names distinct in
    go (cases_lt p.message.addressee w.count) (omega arith)
  where
    after : Node
    after = note w.events e (record (w.nodes i) { outbox = rest })

    sent : ℕ → Node
    sent = at_node w.nodes i after

    go : (p.message.addressee < w.count) ⊎ (w.count ≤ p.message.addressee) → sum_from (spends P w.count names) 0 w.count sent + token P w.count p.message ≤ budget
        → sum (spends P w.count names) (carries i e (Some (record { taken = p; rest = rest })) w).world ≤ budget
    go (inl l) one =
        let n = sent p.message.addressee in
        let two = sum_with (spends P w.count names) w.count p.message.addressee sent (put_in p n) l in
        let more = weigh_append (on_piece (token P w.count)) n.inbox (p ∷ []) in omega arith
    go (inr l) one = let two = sum_past (spends P w.count names) 0 w.count p.message.addressee sent (put_in p (sent p.message.addressee)) (omega arith) in omega arith
