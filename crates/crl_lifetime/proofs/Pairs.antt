-- A region's home and another node agree in every run: who asked, who is missing, what is under way, what the node has.
use Rattle.std.proofs.Common.{◌≡◌, ℕ, zero, suc, ◌+◌, ◌≤◌, ◌<◌, ◌==◌, Bool, true, false, Some, List, [], ◌∷◌, if◌then◌else◌, refl, ap, sym, ◌∙◌, subst, arith}
use Rattle.std.proofs.lemmas.Bool.{cond_both, cond-true, cond-false, eqb-true, eqb-false, ne_eqb}
use Rattle.crl_model.specs.declared.name.Name.{Name}
use Rattle.crl_model.specs.declared.call.Call.{Call}
use Rattle.crl_model.specs.declared.event.Event.{Event}
use Rattle.crl_model.specs.declared.event.Event.TheVariants as event
use Rattle.crl_model.specs.declared.message.Message.{Message}
use Rattle.crl_model.specs.declared.message.Kind.{Kind}
use Rattle.crl_model.specs.declared.message.Kind.TheVariants as kind
use Rattle.crl_model.specs.declared.message.Told.{Told}
use Rattle.crl_model.specs.declared.message.Told.TheVariants as told
use Rattle.crl_model.specs.Names.{name_eq, at_node}
use Rattle.crl_protocol.specs.Parcels.{Piece, with_load, Key, key_of, PartsGathered}
use Rattle.crl_protocol.specs.Places.{Took}
use Rattle.crl_protocol.specs.Lifetimes.{Lifetime, no_lifetime}
use Rattle.crl_protocol.specs.Node.{Node, new_node, ForMap, Activity, Free, Waiting, Answer, Done, Outcome, only, is_mine, lifetime_of, message_to}
use Rattle.crl_protocol.specs.World.{World, WorldStep, new_world, steps_node, carries, commits, note, put_in, step, is_enabled, IsRunFrom, world_after}
use Rattle.crl_deeds.specs.Deeds.{FreeIf, Cause, Calls, Hears, parting, Lives, Deed, copies, lives, rounds, notes, refuses, idles, unmaps_doomed, unmaps_evicting, deletes_own, deletes_for, dooms, drops, warns}
use Rattle.crl_deeds.specs.Counts.{Known}
use Rattle.crl_deeds.specs.Tokens.{deletes_for_node, weigh, weighs, on_piece, sum, sum_from, load, came, map_token, waits_map, waits_delete, deleting, delete_token}
use Rattle.crl_deeds.specs.Turns.{noted_as, Frame, Turn, calls, hears, gathers, answers, carriage, Came, Held, HeldIn, HeldOut}
use Rattle.crl_deeds.proofs.Laws.{same_name, deed_frame, each_at, all_took, turn_of, turn_count, held_turn, weigh_append, weigh_took, sum_new, none_to, part_same, keyed_none, known_start, known_step, life_run, map_life, delete_life}
use Rattle.crl_lifetime.specs.Lifetime.{one_if}
use Rattle.crl_lifetime.proofs.Weights.{if_named, told_weight, live_weight, order_weight, answer_weight, Talk, live_talk, order_talk, answer_talk, parting_none, copies_silent, rounds_silent, nothing, under, under_step, under_carried}
use Rattle.crl_lifetime.proofs.Storing.{one, flag_few, deleted_few, going_deleted}
use Rattle.crl_lifetime.proofs.Home.{of_life, at_home, home_deed, purges_silent}
use Rattle.crl_lifetime.proofs.Side.{at_side, side_deed}
use Rattle.crl_lifetime.proofs.Lived.{Lived, Spoken, lived_local, lived_start}
use Rattle.crl_lifetime.proofs.Asking.{LifeFits}
use Rattle.crl_lifetime.proofs.Rules.{AtHome, AtSide, Agrees, HomeRule, keeps, tells, begins, counts, loses, SideRule, stays, quits, home_agrees, side_agrees}

abbrev pub PairAt : Name → ℕ → World → Type 0
PairAt r m w = Agrees (at_home r m (w.nodes r.home)) (at_side r (w.nodes m)) (under (live_weight one m r) w) (under (order_weight m r) w) (under (answer_weight m r) w)

-- Of what goes to or comes from another node nothing is counted.
pub came_live_other : (f : ℕ → ℕ) (m : ℕ) (r : Name) (me : ℕ) (cause : Cause) → (me == m) ≡ false → came (live_weight f m r) me cause ≡ 0
came_live_other f m r me (Calls c) e = refl
came_live_other f m r me (Hears from (kind.InfoIs name t)) e = cond-false (me == m) _ 0 e
came_live_other f m r me (Hears from _) e = refl

came_purge_other : (m : ℕ) (r : Name) (me : ℕ) (cause : Cause) → (me == m) ≡ false → came (order_weight m r) me cause ≡ 0
came_purge_other m r me (Calls c) e = refl
came_purge_other m r me (Hears from (kind.Purge name)) e = cond-false (me == m) _ 0 e
came_purge_other m r me (Hears from _) e = refl

-- a Purged comes to the home
came_purged_away : (count m : ℕ) (r : Name) (me : ℕ) (cause : Cause) → Came (Spoken count) me cause → (r.home ≡ me → ⊥) → came (answer_weight m r) me cause ≡ 0
came_purged_away count m r me (Calls c) f away = refl
came_purged_away count m r me (Hears from (kind.Purged name)) f away = go (name_eq name r) refl
  where
    go : (b : Bool) → name_eq name r ≡ b → (if from == m then one_if b else 0) ≡ 0
    go true e = absurd (away (ap (λ (x : Name). x.home) (sym (same_name name r e)) ∙ sym f.1.0))
    go false e = none_to (from == m) 0
came_purged_away count m r me (Hears from _) f away = refl

sent_lives : (m : ℕ) (r : Name) (n : Node) (cause : Cause) (o : Outcome) → Lives n cause o → (n.me == m) ≡ false → weigh (answer_weight m r) o.posts ≡ 0
sent_lives m r n cause o (unmaps_doomed name x e once other bad closed) w = parting_none (answer_weight m r) (answer_talk m r).mail n name (n.remotes name)
sent_lives m r n cause o (unmaps_evicting name x old e once other good closed kept) w = parting_none (answer_weight m r) (answer_talk m r).mail n old (n.remotes old)
sent_lives m r n cause o (deletes_own name x xs mine is e) w = purges_silent (answer_weight m r) (λ from to name. refl) n name _
sent_lives m r n cause o (deletes_for from name x xs mine is e) w = purges_silent (answer_weight m r) (λ from to name. refl) n name _
sent_lives m r n cause o (dooms from name x e) w = let a = cond-false (n.me == m) (if_named name r 1) 0 w in omega arith
sent_lives m r n cause o (drops from name size e c) w =
    let a = cond-false (n.me == m) (if_named name r 1) 0 w in
    let b = parting_none (answer_weight m r) (answer_talk m r).mail n name (n.remotes name) in
    let d = weigh_append (answer_weight m r) (parting n name (n.remotes name)) (message_to n from (kind.Purged name) ∷ []) in omega arith
sent_lives m r n cause o (warns from name e c) w = let a = cond-false (n.me == m) (if_named name r 1) 0 w in omega arith
sent_lives m r n cause o _ w = refl

sent_other : (m : ℕ) (r : Name) (n : Node) (cause : Cause) (o : Outcome) → Deed n cause o → (n.me == m) ≡ false → weigh (answer_weight m r) o.posts ≡ 0
sent_other m r n cause o (copies d) w = (copies_silent (answer_weight m r) (answer_talk m r).mail n cause o d).0
sent_other m r n cause o (lives d) w = sent_lives m r n cause o d w
sent_other m r n cause o (rounds d) w = (rounds_silent (answer_weight m r) (answer_talk m r) n cause o d).0
sent_other m r n cause o (notes d) w = refl
sent_other m r n cause o (refuses c why v) w = refl
sent_other m r n cause o (idles h) w = refl

-- At another node than the home nothing is known, and it tells nothing.
no_home : (r : Name) (m : ℕ) (n : Node) → is_mine n r ≡ false → at_home r m n ≡ of_life m no_lifetime
no_home r m n e = ap (of_life m) (cond-false (is_mine n r) _ _ e)

nothing_told : (m : ℕ) (h k : AtHome) (l p q : ℕ) → HomeRule h l p q k → h ≡ of_life m no_lifetime → k ≡ of_life m no_lifetime → q ≡ 0 → (l ≡ 0) × (p ≡ 0)
nothing_told m h k l p q (keeps a b c d e f) x y z = (d, e)
nothing_told m h k l p q (tells a b c d e f) x y z = absurd (let w = ap (λ (x : AtHome). x.asked) y in omega arith)
nothing_told m h k l p q (begins a b c d e f g i) x y z = absurd (let w = ap (λ (x : AtHome). x.deleted) y in omega arith)
nothing_told m h k l p q (counts a b c d e f g) x y z = absurd (let w = ap (λ (x : AtHome). x.missing) x in omega arith)
nothing_told m h k l p q (loses a b) x y z = absurd (omega arith)

waits_few : (q : Name) (a : Activity) → waits_map q a ≤ 1
waits_few q (Waiting (ForMap p purged)) = flag_few (name_eq p q)
waits_few q _ = omega arith

home_few : (count me m : ℕ) (l : Lifetime) → LifeFits count me l → (of_life m l).missing ≤ (of_life m l).deleted
home_few count me m l f = let a = f.going m in let b = going_deleted l.stage in omega arith

-- Where only the node's activity may change.
pair_quiet : (w v : World) (r : Name) (m : ℕ) → Held (Lived w.count) (Spoken w.count) w → at_home r m (v.nodes r.home) ≡ at_home r m (w.nodes r.home) → SideRule (at_side r (w.nodes m)) 0 0 0 (at_side r (v.nodes m))
    → ((f : Message → ℕ) → Talk f → under f v ≡ under f w) → under (live_weight one m r) v ≤ waits_map r (v.nodes m).activity → PairAt r m w → PairAt r m v
pair_quiet w v r m held home side flow top g =
    let h = w.nodes r.home in
    let a = flow (live_weight one m r) (live_talk one m r) in
    let b = flow (order_weight m r) (order_talk m r) in
    let c = flow (answer_weight m r) (answer_talk m r) in
    subst (λ x. Agrees x (at_side r (v.nodes m)) (under (live_weight one m r) v) (under (order_weight m r) v) (under (answer_weight m r) v)) (sym home)
    (side_agrees (at_home r m h) (at_side r (w.nodes m)) (at_side r (v.nodes m)) 0 0 0 (under (live_weight one m r) w) (under (order_weight m r) w) (under (answer_weight m r) w) _ _ _ side (deleted_few _)
    (home_few w.count h.me m (lifetime_of h r) ((held r.home).node.life r)) (flag_few _) (omega arith) (omega arith) (omega arith) top g)

pair_deed : (w : World) (r : Name) (m : ℕ) → m < w.count → (r.home == m) ≡ false → Held (Lived w.count) (Spoken w.count) w → (j : ℕ) (n : Node) (e : Event) (cause : Cause) (o : Outcome) → Lived w.count j n → FreeIf cause n
    → Came (Spoken w.count) j cause → Deed n cause o → at_home r m n ≡ at_home r m (w.nodes j) → at_side r n ≡ at_side r (w.nodes j)
    → ((f : Message → ℕ) → Talk f → under f (steps_node j e o w).world + came f n.me cause ≡ under f w + weigh f o.posts)
    → under (live_weight one m r) (steps_node j e o w).world ≤ waits_map r ((steps_node j e o w).world.nodes m).activity → PairAt r m w → PairAt r m (steps_node j e o w).world
pair_deed w r m small apart held j n e cause o lived free f d home side flow top g = go (j == r.home) (j == m) refl refl
  where
    v : World
    v = (steps_node j e o w).world

    after : Node
    after = commits w.events e o

    me : n.me ≡ j
    me = lived.counted.me

    rule : HomeRule (at_home r m n) (weigh (live_weight one m r) o.posts) (weigh (order_weight m r) o.posts) (came (answer_weight m r) n.me cause) (at_home r m o.node)
    rule = home_deed r m w.count n cause o d small lived.counted.few lived.none lived.life

    few : waits_map r (v.nodes m).activity ≤ 1
    few = waits_few r (v.nodes m).activity

    no_side : (j == m) ≡ false → (n.me == m) ≡ false
    no_side k = ap (λ x. x == m) me ∙ k

    not_mine : (j == r.home) ≡ false → is_mine n r ≡ false
    not_mine k = ne_eqb r.home n.me (λ w. eqb-false j r.home k (sym (w ∙ me)))

    -- at another node than the home
    away : (j == r.home) ≡ false → (weigh (live_weight one m r) o.posts ≡ 0) × (weigh (order_weight m r) o.posts ≡ 0) × (came (answer_weight m r) n.me cause ≡ 0)
    away k =
        let z = came_purged_away w.count m r n.me cause (subst (λ x. Came (Spoken w.count) x cause) (sym me) f) (λ w. eqb-false j r.home k (sym (w ∙ me))) in
        let still : at_home r m o.node ≡ of_life m no_lifetime = no_home r m o.node (ap (λ x. r.home == x) (deed_frame n cause o d).me ∙ not_mine k) in
        let none = nothing_told m _ _ _ _ _ rule (no_home r m n (not_mine k)) still z in (none.0, none.1, z)

    go : (b c : Bool) → (j == r.home) ≡ b → (j == m) ≡ c → PairAt r m v
    go true true x y = absurd (eqb-false r.home m apart (sym (eqb-true j r.home x) ∙ eqb-true j m y))
    go true false x y =
        let a = flow (live_weight one m r) (live_talk one m r) in
        let b = flow (order_weight m r) (order_talk m r) in
        let c = flow (answer_weight m r) (answer_talk m r) in
        let p = came_live_other one m r n.me cause (no_side y) in
        let q = came_purge_other m r n.me cause (no_side y) in
        let s = sent_other m r n cause o d (no_side y) in
        let most = few in
        let h0 : at_home r m n ≡ at_home r m (w.nodes r.home) = home ∙ ap (λ k. at_home r m (w.nodes k)) (eqb-true j r.home x) in
        let h1 : at_home r m (v.nodes r.home) ≡ at_home r m o.node = ap (at_home r m) (cond-true (j == r.home) after (w.nodes r.home) x) in
        let s1 : at_side r (v.nodes m) ≡ at_side r (w.nodes m) = ap (at_side r) (cond-false (j == m) after (w.nodes m) y) in
        subst (λ z. Agrees z (at_side r (v.nodes m)) (under (live_weight one m r) v) (under (order_weight m r) v) (under (answer_weight m r) v)) (sym h1)
        (subst (λ z. Agrees (at_home r m o.node) z (under (live_weight one m r) v) (under (order_weight m r) v) (under (answer_weight m r) v)) (sym s1)
        (home_agrees (at_home r m n) (at_home r m o.node) (at_side r (w.nodes m)) _ _ _ (under (live_weight one m r) w) (under (order_weight m r) w) (under (answer_weight m r) w) _ _ _ rule (deleted_few _) (flag_few _) (omega arith) (omega arith) (omega arith) (omega arith)
        (subst (λ z. Agrees z (at_side r (w.nodes m)) (under (live_weight one m r) w) (under (order_weight m r) w) (under (answer_weight m r) w)) (sym h0) g)))
    go false true x y =
        let a = flow (live_weight one m r) (live_talk one m r) in
        let b = flow (order_weight m r) (order_talk m r) in
        let c = flow (answer_weight m r) (answer_talk m r) in
        let z = away x in
        let s0 : at_side r n ≡ at_side r (w.nodes m) = side ∙ ap (λ k. at_side r (w.nodes k)) (eqb-true j m y) in
        let s1 : at_side r (v.nodes m) ≡ at_side r o.node = ap (at_side r) (cond-true (j == m) after (w.nodes m) y) in
        let h1 : at_home r m (v.nodes r.home) ≡ at_home r m (w.nodes r.home) = ap (at_home r m) (cond-false (j == r.home) after (w.nodes r.home) x) in
        let top1 : under (live_weight one m r) v ≤ (at_side r o.node).waits = subst (λ (k : AtSide). under (live_weight one m r) v ≤ k.waits) s1 top in
        subst (λ k. Agrees k (at_side r (v.nodes m)) (under (live_weight one m r) v) (under (order_weight m r) v) (under (answer_weight m r) v)) (sym h1)
        (subst (λ k. Agrees (at_home r m (w.nodes r.home)) k (under (live_weight one m r) v) (under (order_weight m r) v) (under (answer_weight m r) v)) (sym s1)
        (side_agrees (at_home r m (w.nodes r.home)) (at_side r n) (at_side r o.node) _ _ _ (under (live_weight one m r) w) (under (order_weight m r) w) (under (answer_weight m r) w) _ _ _
        (side_deed r m n cause o d (me ∙ eqb-true j m y) free (not_mine x) lived.each) (deleted_few _)
        (home_few w.count _ m (lifetime_of (w.nodes r.home) r) ((held r.home).node.life r)) (flag_few _) (omega arith) (omega arith) (omega arith) top1
        (subst (λ k. Agrees (at_home r m (w.nodes r.home)) k (under (live_weight one m r) w) (under (order_weight m r) w) (under (answer_weight m r) w)) (sym s0) g)))
    go false false x y =
        let a = flow (live_weight one m r) (live_talk one m r) in
        let b = flow (order_weight m r) (order_talk m r) in
        let c = flow (answer_weight m r) (answer_talk m r) in
        let p = came_live_other one m r n.me cause (no_side y) in
        let q = came_purge_other m r n.me cause (no_side y) in
        let s = sent_other m r n cause o d (no_side y) in
        let z = away x in
        let most = few in
        let s1 : at_side r (v.nodes m) ≡ at_side r (w.nodes m) = ap (at_side r) (cond-false (j == m) after (w.nodes m) y) in
        let h1 : at_home r m (v.nodes r.home) ≡ at_home r m (w.nodes r.home) = ap (at_home r m) (cond-false (j == r.home) after (w.nodes r.home) x) in
        subst (λ k. Agrees k (at_side r (v.nodes m)) (under (live_weight one m r) v) (under (order_weight m r) v) (under (answer_weight m r) v)) (sym h1)
        (subst (λ k. Agrees (at_home r m (w.nodes r.home)) k (under (live_weight one m r) v) (under (order_weight m r) v) (under (answer_weight m r) v)) (sym s1)
        (home_agrees (at_home r m (w.nodes r.home)) (at_home r m (w.nodes r.home)) (at_side r (w.nodes m)) 0 0 0 (under (live_weight one m r) w) (under (order_weight m r) w) (under (answer_weight m r) w) _ _ _
        (keeps refl refl refl refl refl refl) (deleted_few _) (flag_few _) (omega arith) (omega arith) (omega arith) (omega arith) g))

-- The same of a node after its boxes change.
pub same_at : {A : Type 0} (F : Node → A) (nodes : ℕ → Node) (i : ℕ) (n : Node) → F n ≡ F (nodes i) → (j : ℕ) → F (at_node nodes i n j) ≡ F (nodes j)
same_at F nodes i n e j = each_at (λ k x. F x ≡ F (nodes k)) nodes i n (λ k. refl) e j

side_same : (s t : AtSide) → t ≡ s → SideRule s 0 0 0 t
side_same s t e =
    let a = ap (λ (x : AtSide). x.sound) e in
    let b = ap (λ (x : AtSide). x.doomed) e in
    stays (omega arith) (omega arith) (ap (λ (x : AtSide). x.marked) e) refl refl

-- What a turn does to what is under way.
pub flow_calls : (w : World) (j : ℕ) (e : Event) (c : Call) (o : Outcome) → j < w.count → Deed (w.nodes j) (Calls c) o → (f : Message → ℕ) → Talk f → under f (steps_node j e o w).world + 0 ≡ under f w + weigh f o.posts
flow_calls w j e c o few d f t = under_step f t w j (w.nodes j) e 0 o few (deed_frame _ _ _ d) (omega arith)

pub spoken_comes : (w : World) → Held (Lived w.count) (Spoken w.count) w → (j : ℕ) (p : Piece) (rest : List Piece) (part : List ℕ) → Took p (w.nodes j).inbox rest → Came (Spoken w.count) j (Hears p.message.sender (with_load part p.message.kind))
spoken_comes w held j p rest part took =
    let spoken = all_took (HeldIn (Spoken w.count) j) took (held j).inbox in
    (lived_local w.count).parts (record p.message { addressee = j }) part (subst (λ to. Spoken w.count (record p.message { addressee = to })) spoken.0.1 spoken.0.0)

pub flow_hears : (w : World) → Held (Lived w.count) (Spoken w.count) w → (j : ℕ) (e : Event) (p : Piece) (rest : List Piece) (parcels : PartsGathered) (part : List ℕ) (o : Outcome) → j < w.count → Took p (w.nodes j).inbox rest
    → Deed (record (w.nodes j) { inbox = rest; parcels = parcels }) (Hears p.message.sender (with_load part p.message.kind)) o
    → (f : Message → ℕ) → Talk f → under f (steps_node j e o w).world + came f (w.nodes j).me (Hears p.message.sender (with_load part p.message.kind)) ≡ under f w + weigh f o.posts
flow_hears w held j e p rest parcels part o few took d f t =
    let n : Node = record (w.nodes j) { inbox = rest; parcels = parcels } in
    let to = (all_took (HeldIn (Spoken w.count) j) took (held j).inbox).0.1 in
    let weight : f p.message ≡ came f n.me (Hears p.message.sender (with_load part p.message.kind)) =
    ap (λ a. f (record { sender = p.message.sender; addressee = a; kind = p.message.kind })) (to ∙ sym (held j).node.counted.me) ∙ sym (part_same f t.mail p.message.sender n.me part p.message.kind) in
    let took_out = weigh_took (on_piece f) took in
    under_step f t w j n e (came f n.me (Hears p.message.sender (with_load part p.message.kind))) o few (deed_frame _ _ _ d) (omega arith)

same_frame : (n : Node) → Frame n n
same_frame n = record { me = refl; nodes = refl; capacity = refl; inbox = refl; outbox = refl; parcels = refl }

pub flow_gathers : (w : World) (j : ℕ) (e : Event) (p : Piece) (rest : List Piece) (parcels : PartsGathered) (key : Key) → j < w.count → Took p (w.nodes j).inbox rest → key_of p.message ≡ Some key
    → (f : Message → ℕ) → Talk f → under f (steps_node j e (only (record (w.nodes j) { inbox = rest; parcels = parcels }) Done) w).world ≡ under f w
flow_gathers w j e p rest parcels key few took keyed f t =
    let none = keyed_none f t.mail p.message.sender p.message.addressee p.message.kind key keyed in
    let took_out = weigh_took (on_piece f) took in
    let n : Node = record (w.nodes j) { inbox = rest; parcels = parcels } in
    let moved = under_step f t w j n e 0 (only n Done) few (same_frame n) (omega arith) in omega arith

pub flow_answers : (w : World) (j : ℕ) (e : Event) (answer : Answer) → j < w.count → (f : Message → ℕ) → Talk f
    → under f (steps_node j e (record { node = record (w.nodes j) { activity = Free }; answer = answer; entries = []; posts = [] }) w).world ≡ under f w
flow_answers w j e answer few f t =
    let n : Node = w.nodes j in
    let moved = under_step f t w j n e 0 (record { node = record n { activity = Free }; answer = answer; entries = []; posts = [] }) few (record { me = refl; nodes = refl; capacity = refl; inbox = refl; outbox = refl; parcels = refl }) (omega arith) in
    omega arith

pub flow_carried : (w : World) → Held (Lived w.count) (Spoken w.count) w → (i : ℕ) (e : Event) (p : Piece) (rest : List Piece) → i < w.count → Took p (w.nodes i).outbox rest → (f : Message → ℕ) → Talk f
    → under f (carries i e (Some (record { taken = p; rest = rest })) w).world ≡ under f w
flow_carried w held i e p rest few took f t =
    under_carried f w i e p rest few took (t.near w.count p.message.sender p.message.addressee p.message.kind (all_took (HeldOut (Spoken w.count)) took (held i).outbox).0.0.1)

pub carried_at : {A : Type 0} (F : Node → A) (w : World) (i : ℕ) (e : Event) (p : Piece) (rest : List Piece) → ((n : Node) → F (put_in p n) ≡ F n) → F (note w.events e (record (w.nodes i) { outbox = rest })) ≡ F (w.nodes i)
    → (j : ℕ) → F ((carries i e (Some (record { taken = p; rest = rest })) w).world.nodes j) ≡ F (w.nodes j)
carried_at F w i e p rest blind same j =
    let first : Node = note w.events e (record (w.nodes i) { outbox = rest }) in
    same_at F (at_node w.nodes i first) p.message.addressee _ (blind _) j ∙ same_at F w.nodes i first same j

pair_turn : (w : World) (v : WorldStep) (r : Name) (m : ℕ) → {e : Event} → Turn w e v → m < w.count → (r.home == m) ≡ false → Held (Lived w.count) (Spoken w.count) w → under (live_weight one m r) v.world ≤ waits_map r (v.world.nodes m).activity
    → PairAt r m w → PairAt r m v.world
pair_turn w v r m (calls j c o few free may d) small apart held top g =
    pair_deed w r m small apart held j (w.nodes j) (noted_as w j c) (Calls c) o (held j).node free tt d refl refl (flow_calls w j (noted_as w j c) c o few d) top g
pair_turn w v r m (hears j place p rest parcels part o few took d) small apart held top g =
    let n = w.nodes j in
    pair_deed w r m small apart held j (record n { inbox = rest; parcels = parcels }) (event.Handle j place) (Hears p.message.sender (with_load part p.message.kind)) o
    ((lived_local w.count).boxes j n rest n.outbox parcels n.records n.notes n.posted (held j).node) tt (spoken_comes w held j p rest part took) d refl refl (flow_hears w held j (event.Handle j place) p rest parcels part o few took d) top g
pair_turn w v r m (gathers j place p rest parcels key few took keyed) small apart held top g =
    pair_quiet w v.world r m held (same_at (at_home r m) w.nodes j _ refl r.home) (side_same _ _ (same_at (at_side r) w.nodes j _ refl m)) (flow_gathers w j (event.Handle j place) p rest parcels key few took keyed) top g
pair_turn w v r m (answers j answer few ready) small apart held top g =
    pair_quiet w v.world r m held (same_at (at_home r m) w.nodes j _ refl r.home)
    (each_at (λ k x. SideRule (at_side r (w.nodes k)) 0 0 0 (at_side r x)) w.nodes j _ (λ k. side_same _ _ refl) (quits (omega arith) (omega arith) refl refl refl refl) m)
    (flow_answers w j (event.Collect j) answer few) top g
pair_turn w v r m (carriage i place p rest few took) small apart held top g =
    pair_quiet w v.world r m held (carried_at (at_home r m) w i (event.Carry i place) p rest (λ n. refl) refl r.home) (side_same _ _ (carried_at (at_side r) w i (event.Carry i place) p rest (λ n. refl) refl m)) (flow_carried w held i (event.Carry i place) p rest few took) top g

-- An InfoIs is one of those for which a node waits.
weigh_less : (f g : Message → ℕ) → ((x : Message) → f x ≤ g x) → (ps : List Piece) → weighs f ps ≤ weighs g ps
weigh_less f g h [] = omega arith
weigh_less f g h (p ∷ ps) = let a = h p.message in let b = weigh_less f g h ps in omega arith

under_less_from : (f g : Message → ℕ) → ((x : Message) → f x ≤ g x) → (i k : ℕ) (nodes : ℕ → Node) → sum_from (load f nothing) i k nodes ≤ sum_from (load g nothing) i k nodes
under_less_from f g h i zero nodes = omega arith
under_less_from f g h i (suc k) nodes = let a = under_less_from f g h (i + 1) k nodes in let b = weigh_less f g h (nodes i).inbox in let c = weigh_less f g h (nodes i).outbox in omega arith

pub under_less : (f g : Message → ℕ) → ((x : Message) → f x ≤ g x) → (w : World) → under f w ≤ under g w
under_less f g h w = under_less_from f g h 0 w.count w.nodes

live_few : (m : ℕ) (r : Name) (x : Message) → live_weight one m r x ≤ map_token m r x
live_few m r x = go x.kind
  where
    told_few : (t : Told) → told_weight one t ≤ 1
    told_few (told.Live size) = omega arith
    told_few told.Unknown = omega arith
    told_few told.Deleted = omega arith

    go : (k : Kind) → live_weight one m r (record x { kind = k }) ≤ map_token m r (record x { kind = k })
    go (kind.InfoIs name t) = both (x.addressee == m) (name_eq name r) (told_few t)
      where
        both : (b c : Bool) → told_weight one t ≤ 1 → (if b then (if c then told_weight one t else 0) else 0) ≤ (if b then (if c then 1 else 0) else 0)
        both true true h = h
        both true false h = omega arith
        both false c h = omega arith
    go _ = omega arith

-- All of it in every world of a run.
pub record Followed (w : World) : Type 0 where
  pub known : Known w
  pub held : Held (Lived w.count) (Spoken w.count) w
  pub maps : (i : ℕ) (r : Name) → i < w.count → sum (load (map_token i r) nothing) w ≡ waits_map r (w.nodes i).activity
  pub deletes : (i : ℕ) (r : Name) → i < w.count → sum (load (delete_token i r) (deleting i r)) w ≡ waits_delete r (w.nodes i).activity
  pub pairs : (r : Name) (m : ℕ) → m < w.count → (r.home == m) ≡ false → PairAt r m w

pub followed_step : (w : World) (e : Event) → is_enabled e w ≡ true → Followed w → Followed (step e w).world
followed_step w e may x = record {
  known = known_step w e may x.known;
  held = subst (λ k. Held (Lived k) (Spoken k) (step e w).world) (sym same) (held_turn (Lived w.count) (Spoken w.count) w _ turn (lived_local w.count) x.held);
  maps = λ i r small. maps_now i r (subst (λ k. i < k) same small);
  deletes = λ i r small. let s = subst (λ k. i < k) same small in life_run i (delete_token i r) (deleting i r) (waits_delete r) (delete_life i r) (e ∷ []) w s (may, tt) x.known (x.deletes i r s);
  pairs = λ r m small apart.
      let s = subst (λ k. m < k) same small in
      let few = under_less (live_weight one m r) (map_token m r) (live_few m r) (step e w).world in
      let waits = maps_now m r s in
      pair_turn w _ r m turn s apart x.held (omega arith) (x.pairs r m s apart);
}
  where
    turn : Turn w e (step e w)
    turn = turn_of w e may

    same : (step e w).world.count ≡ w.count
    same = turn_count w _ turn

    maps_now : (i : ℕ) (r : Name) → i < w.count → sum (load (map_token i r) nothing) (step e w).world ≡ waits_map r ((step e w).world.nodes i).activity
    maps_now i r s = life_run i (map_token i r) nothing (waits_map r) (map_life i r) (e ∷ []) w s (may, tt) x.known (x.maps i r s)

none_deleting : (i : ℕ) (r : Name) (count capacity j : ℕ) → load (delete_token i r) (deleting i r) (new_node count capacity j) ≡ 0
none_deleting i r count capacity j = cond_both (r.home == j) _ _ (λ (l : Lifetime). 0 + 0 + deletes_for_node i l.stage ≡ 0) (λ w. refl) (λ w. refl)

start_agrees : (count capacity : ℕ) (r : Name) (m : ℕ) → PairAt r m (new_world count capacity)
start_agrees count capacity r m =
    let home : at_home r m ((new_world count capacity).nodes r.home) ≡ of_life m no_lifetime = cond_both (r.home == r.home) _ _ (λ (l : Lifetime). of_life m l ≡ of_life m no_lifetime) (λ w. refl) (λ w. refl) in
    let a = sum_new (load (live_weight one m r) nothing) count capacity (λ j. refl) in
    let b = sum_new (load (order_weight m r) nothing) count capacity (λ j. refl) in
    let c = sum_new (load (answer_weight m r) nothing) count capacity (λ j. refl) in
    subst (λ h. Agrees h (at_side r ((new_world count capacity).nodes m)) (under (live_weight one m r) (new_world count capacity)) (under (order_weight m r) (new_world count capacity)) (under (answer_weight m r) (new_world count capacity))) (sym home)
    (record { missing = omega arith; had = omega arith; told = omega arith; doomed = omega arith; marked = omega arith; purged_entry = omega arith; purged_map = omega arith })

pub followed_start : (count capacity : ℕ) → Followed (new_world count capacity)
followed_start count capacity = record {
  known = known_start count capacity;
  held = lived_start count capacity;
  maps = λ i r small. sum_new (load (map_token i r) nothing) count capacity (λ j. refl);
  deletes = λ i r small. sum_new (load (delete_token i r) (deleting i r)) count capacity (none_deleting i r count capacity);
  pairs = λ r m small apart. start_agrees count capacity r m;
}

pub followed_run : (es : List Event) (w : World) → IsRunFrom w es → Followed w → Followed (world_after w es)
followed_run [] w h x = x
followed_run (e ∷ es) w h x = followed_run es (step e w).world h.1 (followed_step w e h.0 x)
