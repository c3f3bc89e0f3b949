-- The sections that are open at a node are those of its guards: in every run.
use Rattle.std.proofs.Common.{◌≡◌, ℕ, ◌==◌, Bool, true, false, List, [], ◌∷◌, ◌++◌, if◌then◌else◌, refl, ap, sym, ◌∙◌, subst}
use Rattle.std.proofs.lemmas.Bool.{and_parts, eqb-true}
use Rattle.crl_model.specs.declared.name.Name.{Name}
use Rattle.crl_model.specs.declared.call.Call.{Call}
use Rattle.crl_model.specs.declared.event.Event.{Event}
use Rattle.crl_model.specs.declared.event.Event.TheVariants as event
use Rattle.crl_protocol.specs.Parcels.{Piece, with_load}
use Rattle.crl_protocol.specs.Places.{Took}
use Rattle.crl_protocol.specs.Sections.{section_at}
use Rattle.crl_protocol.specs.Node.{Node, Activity, Free, Waiting, Ready, Outcome}
use Rattle.crl_protocol.specs.Calls.{node_calls}
use Rattle.crl_protocol.specs.Talk.{Heard, Called, Collected, hears_of, hears}
use Rattle.crl_protocol.specs.Verdict.{verdict}
use Rattle.crl_protocol.specs.World.{World, WorldStep, new_world, step, is_enabled, is_ready, collects, noted_call, commits, IsRunFrom, world_after, world_of}
use Rattle.crl_deeds.specs.Counts.{Known}
use Rattle.crl_deeds.specs.Deeds.{Cause, Calls, Hears, FreeIf, Deed}
use Rattle.crl_deeds.specs.NodeFacts.{ComesIn, IsAway, Leaves, Fits}
use Rattle.crl_deeds.specs.Turns.{Turn, Came, Kept}
use Rattle.crl_deeds.proofs.Laws.{call_deed, deed_frame, turn_of, all_took, away_load, kept_turn, known_start, known_step, with_rest, may_call}
use Rattle.crl_talk.specs.Guards.{Given, given_of, given_yet, held_after, guards_held, AreGuards, SectionsAreGuards}
use Rattle.crl_talk.specs.Guards as guards
use Rattle.crl_talk.proofs.Asking.{hears_as}
use Rattle.crl_talk.proofs.Guards.{Asks, Yet, Holds, hear_held, hear_back, call_held, call_yet, call_begins, can_open}
use Rattle.crl_talk.proofs.Moves.{is_move, each_moved}

-- What a node that waits for a section has asked for.
asks_deed : (j : ℕ) (n : Node) (cause : Cause) (o : Outcome) → Deed n cause o → Fits j n → Came Leaves n.me cause → FreeIf cause n → Asks n → Asks o.node
asks_deed j n (Calls c) o d fits away free h q w =
    let b = call_begins j n c o q d free fits w in
    (b.0, b.2, λ write. ap (λ s. section_at q s) b.4 ∙ (can_open n c b.0 q b.1 b.3).0 write)
asks_deed j n (Hears from k) o d fits away free h q w =
    let b = hear_back n from k o q d w in
    let a = h q b.0 in
    (a.0, hears_as j n from k o a.0 q d fits away b.0 a.1, λ write. ap (λ s. section_at q s) b.1 ∙ a.2 write)

pub asks_kept : Kept Asks
asks_kept = record {
  deed = asks_deed;
  boxes = λ n inbox outbox parcels records notes posted h q w. (let a = h q w in (a.0, record { home = a.1.home; side = a.1.side }, a.2));
  answered = λ n answer e h q w. cc;
}

-- What is known of a world, with that.
pub record Ground (w : World) : Type 0 where
  pub known : Known w
  pub asks : (i : ℕ) → Asks (w.nodes i)

pub ground_start : (count capacity : ℕ) → Ground (new_world count capacity)
ground_start count capacity = record { known = known_start count capacity; asks = λ i q w. cc }

pub ground_step : (w : World) (e : Event) → is_enabled e w ≡ true → Ground w → Ground (step e w).world
ground_step w e h g = record { known = known_step w e h g.known; asks = kept_turn Asks asks_kept w _ (turn_of w e h) g.known.fits g.asks }

pub ground_run : (es : List Event) (w : World) → IsRunFrom w es → Ground w → Ground (world_after w es)
ground_run [] w r g = g
ground_run (e ∷ es) w r g = ground_run es (step e w).world r.1 (ground_step w e r.0 g)

pub is_away : (j : ℕ) (n : Node) (p : Piece) (rest : List Piece) (part : List ℕ) → Took p n.inbox rest → Fits j n → IsAway p.message.sender n.me (with_load part p.message.kind)
is_away j n p rest part took f = subst (λ (y : Type 0). y) (away_load p.message.sender n.me part p.message.kind) (all_took (ComesIn n.me) took f.inbox).0

-- An event. The guards that node n holds are given by what it hears with it.
abbrev YetAt : ℕ → (Name → List Given) → Node → Type 0
YetAt n f m = (q : Name) → AreGuards n (given_yet q m.activity ++ f q) (m.sections.records q)

abbrev After : ℕ → (Name → List Given) → List Heard → World → Type 0
After n f heard w = YetAt n (λ q. guards_held q (f q) heard) (w.nodes n)

of_me : (n : ℕ) (f : Name → List Given) (m : Node) → m.me ≡ n → YetAt n f m → Yet f m
of_me n f m e h q = subst (λ k. AreGuards k (given_yet q m.activity ++ f q) (m.sections.records q)) (sym e) (h q)

moved_held : (n : ℕ) (f : Name → List Given) (w : World) (v : WorldStep) {e : Event} → Turn w e v → is_move e ≡ true → Ground w → YetAt n f (w.nodes n) → YetAt n f (v.world.nodes n)
moved_held n f w v t moves g h =
    each_moved (λ j x. j ≡ n → YetAt n f x) (λ i x inbox outbox parcels records notes posted k. k) w v t moves
    (λ i p rest parcels part o took d k e. (let x = w.nodes i in
    let me : x.me ≡ n = (g.known.fits i).me ∙ e in
    let s = g.known.sections i in
    let y = hear_held i (record x { inbox = rest; parcels = parcels }) f _ _ o d (with_rest i x p rest parcels took (g.known.fits i)) (is_away i x p rest part took (g.known.fits i))
    (record { each = s.each; waiting = s.waiting }) (λ q w. (let a = g.asks i q w in (a.0, record { home = a.1.home; side = a.1.side }, a.2))) (of_me n f (record x { inbox = rest; parcels = parcels }) me (k e)) in
    (λ q. subst (λ k. AreGuards k (given_yet q o.node.activity ++ f q) (o.node.sections.records q)) ((deed_frame _ _ _ d).me ∙ me) (y q)))) (λ j e. subst (λ i. YetAt n f (w.nodes i)) (sym e) h) n refl

-- a call of the node itself
called_held : (n : ℕ) (f : Name → List Given) (w : World) (c : Call) (o : Outcome) → Deed (w.nodes n) (Calls c) o → (w.nodes n).activity ≡ Free → Ground w → YetAt n f (w.nodes n) → YetAt n (λ q. held_after q (Called c o.answer) (f q)) o.node
called_held n f w c o d free g h q =
    let me = (g.known.fits n).me in
    let holds : Holds (w.nodes n) f = λ p. subst (λ gs. AreGuards (w.nodes n).me (gs ++ f p) ((w.nodes n).sections.records p)) (ap (given_yet p) free) (of_me n f (w.nodes n) me h p) in
    subst (λ k. AreGuards k (given_yet q o.node.activity ++ held_after q (Called c o.answer) (f q)) (o.node.sections.records q)) me
    (subst (λ gs. AreGuards (w.nodes n).me (gs ++ held_after q (Called c o.answer) (f q)) (o.node.sections.records q)) (sym (call_yet (w.nodes n) c o q d free)) (call_held (w.nodes n) f c o d holds q))

guards_event : (n : ℕ) (f : Name → List Given) (w : World) (e : Event) → is_enabled e w ≡ true → Ground w → YetAt n f (w.nodes n) → After n f (hears_of n e (step e w).answer) (step e w).world
unfolding is_enabled step
guards_event n f w (event.Call i c) may g h = go (i == n) refl
  where
    o : Outcome
    o = node_calls c (w.nodes i)

    free : (w.nodes i).activity ≡ Free
    free = (may_call i c w may).1

    go : (b : Bool) → (i == n) ≡ b → YetAt n (λ q. guards_held q (f q) (if b then Called c o.answer ∷ [] else [])) (if b then commits w.events (event.Call i (noted_call (verdict (w.nodes i) c) c)) o else w.nodes n)
    go true e =
        let same = eqb-true i n e in
        subst (λ k. YetAt k (λ q. held_after q (Called c o.answer) (f q)) o.node) same
        (called_held i f w c o (call_deed (w.nodes i) c) free g (subst (λ k. YetAt k f (w.nodes k)) (sym same) h))
    go false e = h
guards_event n f w (event.Collect i) may g h = over (w.nodes i).activity refl (and_parts _ _ may).1
  where
    over : (a : Activity) → (w.nodes i).activity ≡ a → is_ready a ≡ true
        → YetAt n (λ q. guards_held q (f q) (if i == n then Collected (collects a (w.nodes i)).answer ∷ [] else [])) (if i == n then commits w.events (event.Collect i) (collects a (w.nodes i)) else w.nodes n)
    over Free e r = cc
    over (Waiting awaited) e r = cc
    over (Ready answer) e r = go (i == n) refl
      where
        go : (b : Bool) → (i == n) ≡ b → YetAt n (λ q. guards_held q (f q) (if b then Collected answer ∷ [] else [])) (if b then commits w.events (event.Collect i) (collects (Ready answer) (w.nodes i)) else w.nodes n)
        go true x = λ q. subst (λ k. AreGuards n (given_of q answer ++ f q) ((w.nodes k).sections.records q)) (sym (eqb-true i n x))
            (subst (λ (a : Activity). AreGuards n (given_yet q a ++ f q) ((w.nodes n).sections.records q)) (ap (λ k. (w.nodes k).activity) (sym (eqb-true i n x)) ∙ e) (h q))
        go false x = h
guards_event n f w (event.Handle i place) may g h = moved_held n f w _ (turn_of w (event.Handle i place) may) refl g h
guards_event n f w (event.Carry i place) may g h = moved_held n f w _ (turn_of w (event.Carry i place) may) refl g h

-- A run.
held_append : (q : Name) (gs : List Given) (xs ys : List Heard) → guards_held q gs (xs ++ ys) ≡ guards_held q (guards_held q gs xs) ys
held_append q gs [] ys = refl
held_append q gs (x ∷ xs) ys = held_append q (held_after q x gs) xs ys

guards_run : (n : ℕ) (f : Name → List Given) (es : List Event) (w : World) → IsRunFrom w es → Ground w → YetAt n f (w.nodes n) → After n f (hears n w es) (world_after w es)
guards_run n f [] w r g h q = h q
guards_run n f (e ∷ es) w r g h q =
    subst (λ gs. AreGuards n (given_yet q ((world_after w (e ∷ es)).nodes n).activity ++ gs) (((world_after w (e ∷ es)).nodes n).sections.records q)) (sym (held_append q (f q) (hears_of n e (step e w).answer) (hears n (step e w).world es)))
    (guards_run n (λ p. guards_held p (f p) (hears_of n e (step e w).answer)) es (step e w).world r.1 (ground_step w e r.0 g) (guards_event n f w e r.0 g h) q)

pub sections_are_guards : (count capacity : ℕ) (run : List Event) → IsRunFrom (new_world count capacity) run → (n : ℕ) → SectionsAreGuards n (world_of count capacity run) (hears n (new_world count capacity) run)
sections_are_guards count capacity run r n q = guards_run n (λ p. []) run (new_world count capacity) r (ground_start count capacity) (λ p. guards.closed) q
