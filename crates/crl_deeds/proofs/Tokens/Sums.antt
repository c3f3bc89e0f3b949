-- Sums over all nodes, and tokens.
use Rattle.std.proofs.Common.{◌≡◌, ℕ, zero, suc, ◌+◌, ◌≤◌, ◌<◌, ◌==◌, Bool, true, false, Some, List, [], ◌∷◌, ◌++◌, if◌then◌else◌, refl, ap, sym, ◌∙◌, arith}
use Rattle.std.proofs.lemmas.Bool.{cond-true, cond-false, eqb-true, eqb-false, ne_eqb, cases_lt}
use Rattle.std.proofs.Math.Logic.{◌⊎◌, inl, inr}
use Rattle.crl_model.specs.declared.event.Event.{Event}
use Rattle.crl_model.specs.declared.event.Event.TheVariants as event
use Rattle.crl_model.specs.declared.message.Message.{Message}
use Rattle.crl_model.specs.Names.{at_node}
use Rattle.crl_protocol.specs.Parcels.{Piece, pieces_of, pieces_in}
use Rattle.crl_protocol.specs.Places.{Took, here, there}
use Rattle.crl_protocol.specs.Node.{Node, new_node, Done, Activity, Free, Outcome, only}
use Rattle.crl_protocol.specs.World.{World, WorldStep, new_world, boxes_from, pieces_in_boxes, note, put_in, commits, steps_node, carries}
use Rattle.crl_deeds.specs.Tokens.{sum_from, sum, weigh, on_piece, weighs, Whole, load, waited, Tokens, Balance, Balanced}
use Rattle.crl_deeds.specs.Turns.{Frame, Turn}
use Rattle.crl_deeds.specs.Turns.{calls, hears, gathers, answers, carriage}
use Rattle.crl_deeds.proofs.Cases.Turns.{deed_frame, each_at}

at_other : (nodes : ℕ → Node) (n : Node) (i j : ℕ) → (j ≡ i → ⊥) → at_node nodes j n i ≡ nodes i
at_other nodes n i j h = cond-false (j == i) _ _ (ne_eqb j i h)

sum_before : (load : Node → ℕ) (i k j : ℕ) (nodes : ℕ → Node) (n : Node) → j < i → sum_from load i k (at_node nodes j n) ≡ sum_from load i k nodes
sum_before load i zero j nodes n h = refl
sum_before load i (suc k) j nodes n h =
    let t = sum_before load (i + 1) k j nodes n (omega arith) in
    let e = ap load (at_other nodes n i j (λ w. omega arith)) in omega arith

sum_past : (load : Node → ℕ) (i k j : ℕ) (nodes : ℕ → Node) (n : Node) → i + k ≤ j → sum_from load i k (at_node nodes j n) ≡ sum_from load i k nodes
sum_past load i zero j nodes n h = refl
sum_past load i (suc k) j nodes n h =
    let t = sum_past load (i + 1) k j nodes n (omega arith) in
    let e = ap load (at_other nodes n i j (λ w. omega arith)) in omega arith

sum_at : (load : Node → ℕ) (i k j : ℕ) (nodes : ℕ → Node) (n : Node) → i ≤ j → j < i + k → sum_from load i k (at_node nodes j n) + load (nodes j) ≡ sum_from load i k nodes + load n
sum_at load i zero j nodes n h l = absurd (omega arith)
sum_at load i (suc k) j nodes n h l = go (j == i) refl (λ w. sum_at load (i + 1) k j nodes n w (omega arith))
  where
    go : (b : Bool) → (j == i) ≡ b → (i + 1 ≤ j → sum_from load (i + 1) k (at_node nodes j n) + load (nodes j) ≡ sum_from load (i + 1) k nodes + load n)
        → sum_from load i (suc k) (at_node nodes j n) + load (nodes j) ≡ sum_from load i (suc k) nodes + load n
    go true e rest =
        let same : j ≡ i = eqb-true j i e in
        let t = sum_before load (i + 1) k j nodes n (omega arith) in
        let a : load (at_node nodes j n i) ≡ load n = ap load (cond-true (j == i) _ _ e) in
        let b : load (nodes j) ≡ load (nodes i) = ap (λ x. load (nodes x)) same in omega arith
    go false e rest =
        let ne = eqb-false j i e in
        let r = rest (grind arith) in
        let a : load (at_node nodes j n i) ≡ load (nodes i) = ap load (cond-false (j == i) _ _ e) in omega arith

pub sum_with : (load : Node → ℕ) (count j : ℕ) (nodes : ℕ → Node) (n : Node) → j < count → sum_from load 0 count (at_node nodes j n) + load (nodes j) ≡ sum_from load 0 count nodes + load n
sum_with load count j nodes n h = sum_at load 0 count j nodes n (omega arith) (omega arith)

-- a node's load is a part of it
part_from : (load : Node → ℕ) (i k j : ℕ) (nodes : ℕ → Node) → i ≤ j → j < i + k → load (nodes j) ≤ sum_from load i k nodes
part_from load i zero j nodes h l = absurd (omega arith)
part_from load i (suc k) j nodes h l = go (j == i) refl (λ w. part_from load (i + 1) k j nodes w (omega arith))
  where
    go : (b : Bool) → (j == i) ≡ b → (i + 1 ≤ j → load (nodes j) ≤ sum_from load (i + 1) k nodes) → load (nodes j) ≤ sum_from load i (suc k) nodes
    go true e rest = let b : load (nodes j) ≡ load (nodes i) = ap (λ x. load (nodes x)) (eqb-true j i e) in omega arith
    go false e rest = let ne = eqb-false j i e in let r = rest (grind arith) in omega arith

pub sum_part : (load : Node → ℕ) (w : World) (j : ℕ) → j < w.count → load (w.nodes j) ≤ sum load w
sum_part load w j h = part_from load 0 w.count j w.nodes (omega arith) (omega arith)

sum_new_from : (load : Node → ℕ) (i k count capacity : ℕ) → ((j : ℕ) → load (new_node count capacity j) ≡ 0) → sum_from load i k (new_node count capacity) ≡ 0
sum_new_from load i zero count capacity h = refl
sum_new_from load i (suc k) count capacity h = let t = sum_new_from load (i + 1) k count capacity h in let e = h i in omega arith

pub sum_new : (load : Node → ℕ) (count capacity : ℕ) → ((j : ℕ) → load (new_node count capacity j) ≡ 0) → sum load (new_world count capacity) ≡ 0
sum_new load count capacity h = sum_new_from load 0 count count capacity h

pub weigh_append : {A : Type 0} (f : A → ℕ) (xs ys : List A) → weigh f (xs ++ ys) ≡ weigh f xs + weigh f ys
weigh_append f [] ys = omega arith
weigh_append f (x ∷ xs) ys = let h = weigh_append f xs ys in omega arith

pub weigh_took : {A : Type 0} (f : A → ℕ) {m : A} {xs rest : List A} → Took m xs rest → weigh f xs ≡ f m + weigh f rest
weigh_took f here = refl
weigh_took f (there t) = let h = weigh_took f t in omega arith

pub weighs_posted : (f : Message → ℕ) → Whole f → (ms : List Message) → weighs f (pieces_in ms) ≡ weigh f ms
weighs_posted f h [] = refl
weighs_posted f h (m ∷ ms) =
    let rest = weighs_posted f h ms in
    let one = h m in
    let both = weigh_append (on_piece f) (pieces_of m) (pieces_in ms) in omega arith

pub none_to : (b : Bool) (z : ℕ) → (if b then z else z) ≡ z
none_to true z = refl
none_to false z = refl

token_outcome : (f : Message → ℕ) (g : Node → ℕ) (waits : Activity → ℕ) → Tokens f g waits → (i : ℕ) (w : World) (j : ℕ) (before : Node) (e : Event) (came : ℕ) (o : Outcome) → j < w.count → Frame before o.node → before.me ≡ j
    → before.activity ≡ (w.nodes j).activity → load f g (w.nodes j) ≡ came + load f g before → Balance f g waits i before came o → sum (load f g) w ≡ waits (w.nodes i).activity
    → sum (load f g) (steps_node j e o w).world ≡ waits ((steps_node j e o w).world.nodes i).activity
token_outcome f g waits t i w j before e came o few frame me same boxes b one =
    let changes = sum_with (load f g) w.count j w.nodes (commits w.events e o) few in
    let sent = weigh_append (on_piece f) o.node.outbox (pieces_in o.posts) in
    let posts = weighs_posted f t.whole o.posts in
    let inbox = ap (weighs f) frame.inbox in
    let outbox = ap (weighs f) frame.outbox in
    let kept = t.blind o.node o.node.inbox (commits w.events e o).outbox o.node.parcels (commits w.events e o).records (commits w.events e o).notes (commits w.events e o).posted in
    let was : waited waits i before ≡ (if j == i then waits (w.nodes j).activity else 0) = ap (λ x. if x == i then waits before.activity else 0) me ∙ ap (λ x. if j == i then waits x else 0) same in
    let now : waited waits i o.node ≡ (if j == i then waits o.node.activity else 0) = ap (λ x. if x == i then waits o.node.activity else 0) (frame.me ∙ me) in
    go (j == i) refl (omega arith)
  where
    go : (b : Bool) → (j == i) ≡ b
        → sum (load f g) (steps_node j e o w).world + (if j == i then waits (w.nodes j).activity else 0) ≡ sum (load f g) w + (if j == i then waits o.node.activity else 0)
        → sum (load f g) (steps_node j e o w).world ≡ waits ((steps_node j e o w).world.nodes i).activity
    go true x s =
        let here = cond-true (j == i) (waits (w.nodes j).activity) 0 x in
        let there = cond-true (j == i) (waits o.node.activity) 0 x in
        let it : waits (w.nodes j).activity ≡ waits (w.nodes i).activity = ap (λ k. waits (w.nodes k).activity) (eqb-true j i x) in
        let after : waits ((steps_node j e o w).world.nodes i).activity ≡ waits o.node.activity = ap (λ (n : Node). waits n.activity) (cond-true (j == i) (commits w.events e o) (w.nodes i) x) in
        omega arith
    go false x s =
        let here = cond-false (j == i) (waits (w.nodes j).activity) 0 x in
        let there = cond-false (j == i) (waits o.node.activity) 0 x in
        let after : waits ((steps_node j e o w).world.nodes i).activity ≡ waits (w.nodes i).activity = ap (λ (n : Node). waits n.activity) (cond-false (j == i) (commits w.events e o) (w.nodes i) x) in
        omega arith

-- a message that is carried, to a node of the world where it has a weight
sum_carried : (f : Message → ℕ) (g : Node → ℕ) (waits : Activity → ℕ) → Tokens f g waits → (w : World) (i : ℕ) (e : Event) (p : Piece) (rest : List Piece) → i < w.count → Took p (w.nodes i).outbox rest → ((f p.message ≡ 0) ⊎ (p.message.addressee < w.count))
    → sum (load f g) (carries i e (Some (record { taken = p; rest = rest })) w).world ≡ sum (load f g) w
sum_carried f g waits t w i e p rest few took near =
    let took_out = weigh_took (on_piece f) took in
    let kept = t.blind (w.nodes i) (w.nodes i).inbox rest (w.nodes i).parcels (w.nodes i).records after.notes (w.nodes i).posted in
    let one = sum_with (load f g) w.count i w.nodes after few in
    go (cases_lt p.message.addressee w.count) near (omega arith)
  where
    after : Node
    after = note w.events e (record (w.nodes i) { outbox = rest })

    sent : ℕ → Node
    sent = at_node w.nodes i after

    go : (p.message.addressee < w.count) ⊎ (w.count ≤ p.message.addressee) → (f p.message ≡ 0) ⊎ (p.message.addressee < w.count) → sum_from (load f g) 0 w.count sent + f p.message ≡ sum (load f g) w
        → sum (load f g) (carries i e (Some (record { taken = p; rest = rest })) w).world ≡ sum (load f g) w
    go (inl l) k one =
        let n = sent p.message.addressee in
        let two = sum_with (load f g) w.count p.message.addressee sent (put_in p n) l in
        let kept = t.blind n (n.inbox ++ p ∷ []) n.outbox n.parcels n.records n.notes n.posted in
        let more = weigh_append (on_piece f) n.inbox (p ∷ []) in omega arith
    go (inr l) (inl none) one = let two = sum_past (load f g) 0 w.count p.message.addressee sent (put_in p (sent p.message.addressee)) (omega arith) in omega arith
    go (inr l) (inr k) one = absurd (omega arith)

-- a carriage changes no activity
carried_activity : (w : World) (i j : ℕ) (e : Event) (p : Piece) (rest : List Piece) → ((carries i e (Some (record { taken = p; rest = rest })) w).world.nodes j).activity ≡ (w.nodes j).activity
carried_activity w i j e p rest =
    let n = note w.events e (record (w.nodes i) { outbox = rest }) in
    let f = at_node w.nodes i n in
    let sent : (k : ℕ) → (f k).activity ≡ (w.nodes k).activity = each_at (λ k n. n.activity ≡ (w.nodes k).activity) w.nodes i n (λ k. refl) refl in
    each_at (λ k n. n.activity ≡ (w.nodes k).activity) f p.message.addressee (put_in p (f p.message.addressee)) sent (sent p.message.addressee) j

-- Where every outcome is balanced, there are as many tokens as are waited for.
pub token_turn : (f : Message → ℕ) (g : Node → ℕ) (waits : Activity → ℕ) → Tokens f g waits → (i : ℕ) (w : World) (v : WorldStep) {e : Event} → Turn w e v → Balanced f g waits i w → sum (load f g) w ≡ waits (w.nodes i).activity → sum (load f g) v.world ≡ waits (v.world.nodes i).activity
token_turn f g waits t i w v (calls j c o few free may d) b one = token_outcome f g waits t i w j (w.nodes j) _ 0 o few (deed_frame _ _ _ d) (b.me j) refl (omega arith) (b.calls j c o few free d) one
token_turn f g waits t i w v (hears j place p rest parcels part o few took d) b one =
    let took_out = weigh_took (on_piece f) took in
    let n = w.nodes j in
    let kept = t.blind n rest n.outbox parcels n.records n.notes n.posted in
    token_outcome f g waits t i w j (record n { inbox = rest; parcels = parcels }) _ (f p.message) o few (deed_frame _ _ _ d) (b.me j) refl (omega arith) (b.hears j p rest parcels part o few took d) one
token_turn f g waits t i w v (gathers j place p rest parcels key few took keyed) b one =
    let took_out = weigh_took (on_piece f) took in
    let n = w.nodes j in
    let kept = t.blind n rest n.outbox parcels n.records n.notes n.posted in
    let none = b.gathers p key keyed in
    let m : Node = record n { inbox = rest; parcels = parcels } in
    token_outcome f g waits t i w j m _ 0 (only m Done) few (record { me = refl; nodes = refl; capacity = refl; inbox = refl; outbox = refl; parcels = refl }) (b.me j) refl (omega arith) refl one
token_turn f g waits t i w v (answers j answer few ready) b one =
    let n = w.nodes j in
    let o : Outcome = record { node = record n { activity = Free }; answer = answer; entries = []; posts = [] } in
    let kept = t.answered n in
    let was : waited waits i n ≡ 0 = ap (λ x. if n.me == i then x else 0) (ap waits ready ∙ t.ready answer) ∙ none_to (n.me == i) 0 in
    let now : waited waits i o.node ≡ 0 = ap (λ x. if n.me == i then x else 0) t.free ∙ none_to (n.me == i) 0 in
    token_outcome f g waits t i w j n _ 0 o few (record { me = refl; nodes = refl; capacity = refl; inbox = refl; outbox = refl; parcels = refl }) (b.me j) refl (omega arith) (omega arith) one
token_turn f g waits t i w v (carriage j place p rest few took) b one =
    sum_carried f g waits t w j (event.Carry j place) p rest few took (b.carriage j p rest few took) ∙ one ∙ sym (ap waits (carried_activity w j i (event.Carry j place) p rest))

-- it is the weight of the pieces in the boxes
boxed_from : (f : Message → ℕ) (i k : ℕ) (nodes : ℕ → Node) → weighs f (boxes_from i k nodes) ≡ sum_from (load f (λ n. 0)) i k nodes
boxed_from f i zero nodes = refl
boxed_from f i (suc k) nodes =
    let h = boxed_from f (i + 1) k nodes in
    let a = weigh_append (on_piece f) ((nodes i).inbox ++ (nodes i).outbox) (boxes_from (i + 1) k nodes) in
    let b = weigh_append (on_piece f) (nodes i).inbox (nodes i).outbox in omega arith

pub boxed_sum : (f : Message → ℕ) (w : World) → weighs f (pieces_in_boxes w) ≡ sum (load f (λ n. 0)) w
boxed_sum f w = boxed_from f 0 w.count w.nodes
