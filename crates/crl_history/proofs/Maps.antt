-- How often a region is mapped at a node, with a map that is granted and whose answer is under way, is what the single
-- machine has.
use Rattle.std.proofs.Common.{◌≡◌, ℕ, zero, suc, ◌+◌, ◌≤◌, ◌<◌, ◌==◌, Bool, true, false, Some, List, [], ◌∷◌, ◌++◌, if◌then◌else◌, refl, ap, sym, ◌∙◌, subst, arith}
use Rattle.std.proofs.lemmas.Bool.{cond-true, cond-false, eqb-true, eqb-false, cond_both}
use Rattle.crl_model.specs.declared.name.Name.{Name}
use Rattle.crl_model.specs.declared.event.Event.{Event}
use Rattle.crl_model.specs.declared.event.Event.TheVariants as event
use Rattle.crl_model.specs.declared.message.Kind.{Kind}
use Rattle.crl_model.specs.declared.message.Kind.TheVariants as kind
use Rattle.crl_model.specs.Names.{at_node}
use Rattle.crl_machine.specs.SingleMachine.{State, after_all}
use Rattle.crl_protocol.specs.Parcels.{Piece, with_load, pieces_in}
use Rattle.crl_protocol.specs.Places.{Took, there}
use Rattle.crl_protocol.specs.Node.{Node, Free, Done, Outcome, only, map_count}
use Rattle.crl_protocol.specs.World.{World, WorldStep, note, put_in, commits, steps_node, carries, boxes_from, pieces_in_boxes}
use Rattle.crl_deeds.specs.Counts.{Plain, Known}
use Rattle.crl_deeds.specs.Deeds.{Calls, Hears}
use Rattle.crl_deeds.specs.NodeFacts.{ComesIn, Fits}
use Rattle.crl_deeds.specs.Tokens.{on_piece, weighs, sum, load, came}
use Rattle.crl_deeds.specs.Turns.{noted_as, Turn, calls, hears, gathers, answers, carriage, Frame, HeldIn}
use Rattle.crl_deeds.proofs.Laws.{deed_frame, all_took, away_load, sum_with, sum_part, weigh_append, weigh_took, weighs_posted, boxed_sum, whole_of, part_same, keyed_none}
use Rattle.crl_lifetime.specs.Lifetime.{tells_live, any_size, how_many, under_way, TalkFits, MessageFits}
use Rattle.crl_history.proofs.MapDeeds.{grants_map, maps_of, MapsGo, nothing, grants_span, IsAwaited, maps_deed}
use Rattle.crl_flight.proofs.Laws.{took_left}

-- the maps that are granted and whose answer is in a box
abbrev pub granted : ℕ → Name → World → ℕ
granted i r w = sum (load (grants_map i r) nothing) w

abbrev pub MapsMirror : World → State → Type 0
MapsMirror w s = (i : ℕ) (r : Name) → i < w.count → s.maps i r ≡ map_count ((w.nodes i).maps r) + granted i r w

-- What is known of the pieces in boxes.
pub record PiecesFit (w : World) : Type 0 where
  pub heard : (j : ℕ) (p : Piece) (rest : List Piece) → j < w.count → Took p (w.nodes j).inbox rest → MessageFits w p.message
  pub sent : (j : ℕ) (p : Piece) (rest : List Piece) → j < w.count → Took p (w.nodes j).outbox rest → p.message.addressee < w.count

-- An outcome.
maps_own : (i : ℕ) (r : Name) (w : World) (j : ℕ) (e : Event) (o : Outcome) → o.node.me ≡ j → map_count (((steps_node j e o w).world.nodes i).maps r) + (if j == i then map_count ((w.nodes i).maps r) else 0) ≡ map_count ((w.nodes i).maps r) + maps_of i r o.node
maps_own i r w j e o me = go (j == i) refl
  where
    at_me : maps_of i r o.node ≡ (if j == i then map_count (o.node.maps r) else 0)
    at_me = ap (λ k. if k == i then map_count (o.node.maps r) else 0) me

    go : (b : Bool) → (j == i) ≡ b → map_count (((steps_node j e o w).world.nodes i).maps r) + (if j == i then map_count ((w.nodes i).maps r) else 0) ≡ map_count ((w.nodes i).maps r) + maps_of i r o.node
    go true x =
        let new : map_count (((steps_node j e o w).world.nodes i).maps r) ≡ map_count (o.node.maps r) = ap (λ (n : Node). map_count (n.maps r)) (cond-true (j == i) (commits w.events e o) (w.nodes i) x) in
        let a = cond-true (j == i) (map_count ((w.nodes i).maps r)) 0 x in
        let b = cond-true (j == i) (map_count (o.node.maps r)) 0 x in
        let m = at_me in omega arith
    go false x =
        let new : map_count (((steps_node j e o w).world.nodes i).maps r) ≡ map_count ((w.nodes i).maps r) = ap (λ (n : Node). map_count (n.maps r)) (cond-false (j == i) (commits w.events e o) (w.nodes i) x) in
        let a = cond-false (j == i) (map_count ((w.nodes i).maps r)) 0 x in
        let b = cond-false (j == i) (map_count (o.node.maps r)) 0 x in
        let m = at_me in omega arith

maps_before : (i : ℕ) (r : Name) (w : World) (j : ℕ) (n : Node) → n.me ≡ j → n.maps r ≡ (w.nodes j).maps r → maps_of i r n ≡ (if j == i then map_count ((w.nodes i).maps r) else 0)
maps_before i r w j n me same = go (j == i) refl ∙ sym refl
  where
    at_me : maps_of i r n ≡ (if j == i then map_count (n.maps r) else 0)
    at_me = ap (λ k. if k == i then map_count (n.maps r) else 0) me

    go : (b : Bool) → (j == i) ≡ b → maps_of i r n ≡ (if j == i then map_count ((w.nodes i).maps r) else 0)
    go true x = at_me ∙ ap (λ y. if j == i then y else 0) (ap map_count same ∙ ap (λ k. map_count ((w.nodes k).maps r)) (eqb-true j i x))
    go false x = at_me ∙ cond-false (j == i) _ _ x ∙ sym (cond-false (j == i) _ _ x)

few_own : (i : ℕ) (r : Name) (w : World) (j : ℕ) → (if j == i then map_count ((w.nodes i).maps r) else 0) ≤ map_count ((w.nodes i).maps r)
few_own i r w j = go (j == i) (map_count ((w.nodes i).maps r))
  where
    go : (b : Bool) (x : ℕ) → (if b then x else 0) ≤ x
    go true x = omega arith
    go false x = omega arith

maps_outcome : (i : ℕ) (r : Name) (w : World) (s : State) (j : ℕ) (n : Node) (e : Event) (c : ℕ) (o : Outcome) → j < w.count → Frame n o.node → n.me ≡ j → n.maps r ≡ (w.nodes j).maps r → load (grants_map i r) nothing (w.nodes j) ≡ c + load (grants_map i r) nothing n
    → (c + maps_of i r n ≤ s.maps i r → MapsGo i r n c s o) → s.maps i r ≡ map_count ((w.nodes i).maps r) + granted i r w
    → (after_all s o.entries).maps i r ≡ map_count (((steps_node j e o w).world.nodes i).maps r) + granted i r (steps_node j e o w).world
maps_outcome i r w s j n e c o few frame me same boxes goes h =
    let f = grants_map i r in
    let before = maps_before i r w j n me same in
    let small = few_own i r w j in
    let part = sum_part (load f nothing) w j few in
    let step = goes (omega arith) in
    let own = maps_own i r w j e o (frame.me ∙ me) in
    let changes = sum_with (load f nothing) w.count j w.nodes (commits w.events e o) few in
    let sent = weigh_append (on_piece f) o.node.outbox (pieces_in o.posts) in
    let posts = weighs_posted f (λ m. whole_of f (grants_span i r).mail m.sender m.addressee m.kind) o.posts in
    let inbox = ap (weighs f) frame.inbox in
    let outbox = ap (weighs f) frame.outbox in omega arith

-- A piece that is carried.
maps_carried : (i : ℕ) (r : Name) (w : World) (s : State) (j : ℕ) (e : Event) (p : Piece) (rest : List Piece) → j < w.count → Took p (w.nodes j).outbox rest → p.message.addressee < w.count → s.maps i r ≡ map_count ((w.nodes i).maps r) + granted i r w
    → s.maps i r ≡ map_count (((carries j e (Some (record { taken = p; rest = rest })) w).world.nodes i).maps r) + granted i r (carries j e (Some (record { taken = p; rest = rest })) w).world
maps_carried i r w s j e p rest few took near h =
    let f = grants_map i r in
    let sender : Node = note w.events e (record (w.nodes j) { outbox = rest }) in
    let sent : ℕ → Node = at_node w.nodes j sender in
    let to = p.message.addressee in
    let took_out = weigh_took (on_piece f) took in
    let one = sum_with (load f nothing) w.count j w.nodes sender few in
    let two = sum_with (load f nothing) w.count to sent (put_in p (sent to)) near in
    let more = weigh_append (on_piece f) (sent to).inbox (p ∷ []) in
    let same : (sent i).maps r ≡ (w.nodes i).maps r = cond_both (j == i) sender (w.nodes i) (λ (n : Node). n.maps r ≡ (w.nodes i).maps r) (λ x. ap (λ k. (w.nodes k).maps r) (eqb-true j i x)) (λ x. refl) in
    let later : (at_node sent to (put_in p (sent to)) i).maps r ≡ (sent i).maps r = cond_both (to == i) (put_in p (sent to)) (sent i) (λ (n : Node). n.maps r ≡ (sent i).maps r) (λ x. ap (λ k. (sent k).maps r) (eqb-true to i x)) (λ x. refl) in
    let count = ap map_count (later ∙ same) in omega arith

-- What comes is awaited.
awaits : (w : World) (n : Node) (part : List ℕ) (from to : ℕ) (k : Kind) → n.activity ≡ (w.nodes to).activity → TalkFits w from to k → IsAwaited n (Hears from (with_load part k))
awaits w n part from to (kind.InfoIs name t) e h = (h.1, e ∙ h.2)
awaits w n part from to _ e h = tt

pub maps_turn : (w : World) (v : WorldStep) {e : Event} → Turn w e v → Known w → PiecesFit w → (s : State) → MapsMirror w s → (i : ℕ) (r : Name) → i < w.count → (after_all s v.entries).maps i r ≡ map_count ((v.world.nodes i).maps r) + granted i r v.world
maps_turn w v (calls j c o few free may d) x p s h i r small =
    maps_outcome i r w s j (w.nodes j) (noted_as w j c) 0 o few (deed_frame _ _ _ d) (x.fits j).me refl (omega arith) (λ l. maps_deed i r j s (w.nodes j) (Calls c) o d (x.fits j) tt free tt l) (h i r small)
maps_turn w v (hears j place p rest parcels part o few took d) x k s h i r small =
    let m = p.message in
    let f = grants_map i r in
    let n : Node = record (w.nodes j) { inbox = rest; parcels = parcels } in
    let t = x.fits j in
    let mine = all_took (ComesIn (w.nodes j).me) took t.inbox in
    let to : m.addressee ≡ j = (all_took (HeldIn (Plain w.count) j) took (x.held j).inbox).0.1 in
    let fits : Fits j n = record { me = t.me; each = t.each; cache = t.cache; fresh = t.fresh; inbox = mine.1; outbox = t.outbox } in
    let weight : f m ≡ came f n.me (Hears m.sender (with_load part m.kind)) = ap (λ a. f (record { sender = m.sender; addressee = a; kind = m.kind })) (to ∙ sym t.me) ∙ sym (part_same f (grants_span i r).mail m.sender n.me part m.kind) in
    let took_out = weigh_took (on_piece f) took in
    maps_outcome i r w s j n (event.Handle j place) (came f n.me (Hears m.sender (with_load part m.kind))) o few (deed_frame _ _ _ d) t.me refl (omega arith)
    (λ l. maps_deed i r j s n (Hears m.sender (with_load part m.kind)) o d fits (subst (λ (y : Type 0). y) (away_load m.sender n.me part m.kind) mine.0) tt
    (awaits w n part m.sender m.addressee m.kind (ap (λ a. (w.nodes a).activity) (sym to)) (k.heard j p rest few took)) l) (h i r small)
maps_turn w v (gathers j place p rest parcels key few took keyed) x k s h i r small =
    let f = grants_map i r in
    let n : Node = record (w.nodes j) { inbox = rest; parcels = parcels } in
    let none = keyed_none f (grants_span i r).mail p.message.sender p.message.addressee p.message.kind key keyed in
    let took_out = weigh_took (on_piece f) took in
    maps_outcome i r w s j n (event.Handle j place) 0 (only n Done) few (record { me = refl; nodes = refl; capacity = refl; inbox = refl; outbox = refl; parcels = refl }) (x.fits j).me refl (omega arith) (λ l. refl) (h i r small)
maps_turn w v (answers j answer few ready) x k s h i r small =
    let o : Outcome = record { node = record (w.nodes j) { activity = Free }; answer = answer; entries = []; posts = [] } in
    maps_outcome i r w s j (w.nodes j) (event.Collect j) 0 o few (record { me = refl; nodes = refl; capacity = refl; inbox = refl; outbox = refl; parcels = refl }) (x.fits j).me refl (omega arith) (λ l. refl) (h i r small)
maps_turn w v (carriage j place p rest few took) x k s h i r small = maps_carried i r w s j (event.Carry j place) p rest few took (k.sent j p rest few took) (h i r small)

-- They are counted in the boxes.
many_is : (i : ℕ) (r : Name) (ps : List Piece) → weighs (grants_map i r) ps ≡ how_many (tells_live any_size i r) ps
many_is i r [] = refl
many_is i r (p ∷ ps) = ap (λ x. grants_map i r p.message + x) (many_is i r ps)

pub granted_under_way : (i : ℕ) (r : Name) (w : World) → granted i r w ≡ under_way (tells_live any_size i r) w
granted_under_way i r w = sym (boxed_sum (grants_map i r) w) ∙ many_is i r (pieces_in_boxes w)

-- A piece of a node's box is one of all boxes.
took_right : {A : Type 0} (xs : List A) {x : A} {ys zs : List A} → Took x ys zs → Took x (xs ++ ys) (xs ++ zs)
took_right [] t = t
took_right (y ∷ xs) t = there (took_right xs t)

took_from : (p : Piece) (i k j : ℕ) (nodes : ℕ → Node) (rest : List Piece) → i ≤ j → j < i + k → Took p ((nodes j).inbox ++ (nodes j).outbox) rest → (left : List Piece) × Took p (boxes_from i k nodes) left
took_from p i zero j nodes rest h l t = absurd (omega arith)
took_from p i (suc k) j nodes rest h l t = go (j == i) refl (λ m. took_from p (i + 1) k j nodes rest m (omega arith) t)
  where
    go : (b : Bool) → (j == i) ≡ b → (i + 1 ≤ j → (left : List Piece) × Took p (boxes_from (i + 1) k nodes) left) → (left : List Piece) × Took p (((nodes i).inbox ++ (nodes i).outbox) ++ boxes_from (i + 1) k nodes) left
    go true e later = (rest ++ boxes_from (i + 1) k nodes, took_left (boxes_from (i + 1) k nodes) (subst (λ a. Took p ((nodes a).inbox ++ (nodes a).outbox) rest) (eqb-true j i e) t))
    go false e later = let ne = eqb-false j i e in let m = later (grind arith) in (((nodes i).inbox ++ (nodes i).outbox) ++ m.0, took_right ((nodes i).inbox ++ (nodes i).outbox) m.1)

pub inbox_took : (w : World) (j : ℕ) (p : Piece) (rest : List Piece) → j < w.count → Took p (w.nodes j).inbox rest → (left : List Piece) × Took p (pieces_in_boxes w) left
inbox_took w j p rest few t = took_from p 0 w.count j w.nodes (rest ++ (w.nodes j).outbox) (omega arith) (omega arith) (took_left (w.nodes j).outbox t)

pub outbox_took : (w : World) (j : ℕ) (p : Piece) (rest : List Piece) → j < w.count → Took p (w.nodes j).outbox rest → (left : List Piece) × Took p (pieces_in_boxes w) left
outbox_took w j p rest few t = took_from p 0 w.count j w.nodes ((w.nodes j).inbox ++ rest) (omega arith) (omega arith) (took_right (w.nodes j).inbox t)
