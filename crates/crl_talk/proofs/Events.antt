-- What each event of a run means for node n: where its call stands then, and which lines it records.
use Rattle.std.proofs.Common.{◌≡◌, ℕ, ◌+◌, ◌<◌, ◌==◌, Bool, true, false, List, [], ◌∷◌, if◌then◌else◌, refl, ap, sym, ◌∙◌, subst, arith}
use Rattle.std.proofs.lemmas.Bool.{cond-true, cond-false, eqb-true, eq-eqb}
use Rattle.crl_model.specs.declared.stage.Stage.TheVariants as stage
use Rattle.crl_model.specs.declared.call.Call.{Call}
use Rattle.crl_model.specs.declared.call.Call.TheVariants as call
use Rattle.crl_model.specs.declared.entry.What.{What}
use Rattle.crl_model.specs.declared.entry.What.TheVariants as what
use Rattle.crl_model.specs.declared.event.Event.{Event}
use Rattle.crl_model.specs.declared.event.Event.TheVariants as event
use Rattle.crl_protocol.specs.Node.{Node, Answer, Wait, Activity, Free, Waiting, Ready, Awaited, Outcome, lifetime_of}
use Rattle.crl_protocol.specs.Calls.{node_calls}
use Rattle.crl_protocol.specs.Talk.{Heard, Called, Collected, hears_of, AreLines, lines_of_node}
use Rattle.crl_protocol.specs.Verdict.{verdict}
use Rattle.crl_protocol.specs.World.{World, WorldStep, step, is_enabled, is_ready, is_call, collects, noted_call, commits, steps_node}
use Rattle.crl_deeds.specs.Deeds.{Calls, Deed}
use Rattle.crl_deeds.specs.Tokens.{weigh, of_name}
use Rattle.crl_deeds.specs.Turns.{Turn}
use Rattle.crl_deeds.specs.Turns as turn
use Rattle.crl_deeds.proofs.Laws.{call_deed, deed_frame, turn_of, with_rest, collect_node, may_call, may_collect}
use Rattle.crl_talk.proofs.Answered.{Answered, done, waits_section, waits_map, waits_delete, deletes, comes, answered}
use Rattle.crl_talk.proofs.Asking.{AskedAs}
use Rattle.crl_talk.proofs.Effects.{Lasts, same, marked, effect, other_calls}
use Rattle.crl_talk.proofs.Going.{goes_effect, idle_effect}
use Rattle.crl_talk.proofs.Heard.{Ground, is_away}
use Rattle.crl_talk.proofs.Moves.{is_move}
use Rattle.crl_talk.proofs.Pending.{map_asked, delete_asked, Pending, for_section, for_map, for_delete, going, for_round, Goes, Waits, Calm, goes_calm, one_name}
use Rattle.crl_talk.proofs.Sides.{Sided}
use Rattle.crl_talk.proofs.Stepping.{other_calm, gather_calm, carried_calm, hearing}
use Rattle.crl_talk.proofs.Weights.{MapAsk, DeleteAsk, token, token_whole, sum_stepped}

-- What is known of a world for node n.
pub record Facts (n : ℕ) (w : World) : Type 0 where
  pub few : n < w.count
  pub ground : Ground w
  pub waiting : Waits n w
  pub sided : (i : ℕ) → Sided (w.nodes i)

abbrev pub Runs : ℕ → World → List Event → Type 0
Runs n w [] = Facts n w
Runs n w (e ∷ es) = Facts n w × (is_enabled e w ≡ true) × Runs n (step e w).world es

abbrev pub Now : ℕ → World → Activity → Type 0
Now n w a = (w.nodes n).activity ≡ a

-- A move of the world: what it records for node n, and where n's call stands then.
not_waiting : (n : ℕ) (w : World) (a : Activity) → Now n w a → ((b : Awaited) → a ≡ Waiting b → ⊥) → (b : Awaited) → (w.nodes n).activity ≡ Waiting b → ⊥
not_waiting n w a e h b x = h b (sym e ∙ x)

lasts_as : {a b : Activity} → Lasts a b → ((x : Awaited) → a ≡ Waiting x → ⊥) → b ≡ a
lasts_as same h = refl
lasts_as (marked {q = q} {x = x}) h = absurd (h _ refl)

moves_goes : (n : ℕ) (w : World) (s : WorldStep) (c : Call) (front : List What) {e : Event} → Turn w e s → is_move e ≡ true → Facts n w → Pending n w c front → Goes n c front s.world (lines_of_node n s.entries)
moves_goes n w s c front (turn.hears i place p rest parcels part o few took d) moves f x =
    goes_effect n w _ i _ _ o rest parcels c front (hearing n w i (event.Handle i place) p rest parcels part o few took d f.ground f.waiting)
    (effect n i (record (w.nodes i) { inbox = rest; parcels = parcels }) _ _ o d (with_rest i (w.nodes i) p rest parcels took (f.ground.known.fits i)) (is_away i (w.nodes i) p rest part took (f.ground.known.fits i))) x
moves_goes n w s c front (turn.gathers i place p rest parcels key few took keyed) moves f x = goes_calm n w _ c front [] refl (gather_calm n w i (event.Handle i place) p rest parcels key few took keyed) x
moves_goes n w s c front (turn.carriage i place p rest few took) moves f x = goes_calm n w _ c front [] refl (carried_calm n w i (event.Carry i place) p rest few took f.ground) x
moves_goes n w s c front (turn.calls i call o few free may d) moves f x = cc
moves_goes n w s c front (turn.answers i answer few ready) moves f x = cc

moves_idle : (n : ℕ) (w : World) (s : WorldStep) {e : Event} → Turn w e s → is_move e ≡ true → Facts n w → ((b : Awaited) → (w.nodes n).activity ≡ Waiting b → ⊥) → (lines_of_node n s.entries ≡ []) × ((s.world.nodes n).activity ≡ (w.nodes n).activity)
moves_idle n w s (turn.hears i place p rest parcels part o few took d) moves f h =
    let x = idle_effect n w _ i _ _ o rest parcels (hearing n w i (event.Handle i place) p rest parcels part o few took d f.ground f.waiting)
    (effect n i (record (w.nodes i) { inbox = rest; parcels = parcels }) _ _ o d (with_rest i (w.nodes i) p rest parcels took (f.ground.known.fits i)) (is_away i (w.nodes i) p rest part took (f.ground.known.fits i))) h in
    (x.0, lasts_as x.1 h)
moves_idle n w s (turn.gathers i place p rest parcels key few took keyed) moves f h = (refl, lasts_as (gather_calm n w i (event.Handle i place) p rest parcels key few took keyed).act h)
moves_idle n w s (turn.carriage i place p rest few took) moves f h = (refl, lasts_as (carried_calm n w i (event.Carry i place) p rest few took f.ground).act h)
moves_idle n w s (turn.calls i call o few free may d) moves f h = cc
moves_idle n w s (turn.answers i answer few ready) moves f h = cc

-- What an event means for node n, by what n is at.
pub data FreeStep (n : ℕ) (v : World) : List Heard → List What → Type 0 where
  stays : Now n v Free → FreeStep n v [] []
  calls : (c : Call) (answer : Answer) (its : List What) → (answer ≡ Wait → ⊥) → Now n v Free → AreLines n c answer its → FreeStep n v (Called c answer ∷ []) its
  begins : (c : Call) (its : List What) → Pending n v c its → FreeStep n v (Called c Wait ∷ []) its

pub data ReadyStep (n : ℕ) (v : World) (answer : Answer) : List Heard → List What → Type 0 where
  keeps : Now n v (Ready answer) → ReadyStep n v answer [] []
  takes : Now n v Free → ReadyStep n v answer (Collected answer ∷ []) []

-- A call of node n itself.
own_call : (n : ℕ) (w : World) (e : Event) (c : Call) (o : Outcome) → Deed (w.nodes n) (Calls c) o → Facts n w → Answered n (w.nodes n) o c → FreeStep n (steps_node n e o w).world (Called c o.answer ∷ []) (lines_of_node n o.entries)
own_call n w e c o d f a = by a
  where
    v : World
    v = (steps_node n e o w).world

    there : v.nodes n ≡ commits w.events e o
    there = cond-true (n == n) _ _ (eq-eqb n n refl)

    now : (b : Activity) → o.node.activity ≡ b → Now n v b
    now b x = ap (λ (m : Node). m.activity) there ∙ x

    me : (w.nodes n).me ≡ n
    me = (f.ground.known.fits n).me

    begun : (c : Call) (its : List What) → o.answer ≡ Wait → lines_of_node n o.entries ≡ its → Pending n v c its → FreeStep n v (Called c o.answer ∷ []) (lines_of_node n o.entries)
    begun c its wait lines p = subst (λ x. FreeStep n v (Called c x ∷ []) (lines_of_node n o.entries)) (sym wait) (subst (FreeStep n v (Called c Wait ∷ [])) (sym lines) (begins c its p))

    by : {c : Call} → Answered n (w.nodes n) o c → FreeStep n v (Called c o.answer ∷ []) (lines_of_node n o.entries)
    by (done c given free lines) = calls c o.answer _ given (now Free free) lines
    by (waits_section c write q is wait act asked lines) =
        begun c [] wait lines (for_section c write q is (now _ act) (subst (λ m. AskedAs write q m) (sym there) (record { home = asked.home; side = asked.side })))
    by (waits_map q wait act posts lines) =
        begun (call.Map q) [] wait lines
        (for_map q false MapAsk [] map_asked (now _ act)
        (let s = sum_stepped (token MapAsk n q) (token_whole MapAsk n q) w n (w.nodes n) e 0 o f.few (deed_frame _ _ _ d) refl (omega arith) in
        let sent : weigh (token MapAsk n q) o.posts ≡ (if (w.nodes n).me == n then of_name q q else 0) + 0 = ap (weigh (token MapAsk n q)) posts in
        let one : (if (w.nodes n).me == n then of_name q q else 0) ≡ 1 = cond-true ((w.nodes n).me == n) _ _ (eq-eqb _ n me) ∙ one_name q in omega arith))
    by (waits_delete q wait act posts lines) =
        begun (call.Delete q) [] wait lines
        (for_delete q DeleteAsk [] delete_asked (now _ act)
        (let s = sum_stepped (token DeleteAsk n q) (token_whole DeleteAsk n q) w n (w.nodes n) e 0 o f.few (deed_frame _ _ _ d) refl (omega arith) in
        let sent : weigh (token DeleteAsk n q) o.posts ≡ (if (w.nodes n).me == n then of_name q q else 0) + 0 = ap (weigh (token DeleteAsk n q)) posts in
        let one : (if (w.nodes n).me == n then of_name q q else 0) ≡ 1 = cond-true ((w.nodes n).me == n) _ _ (eq-eqb _ n me) ∙ one_name q in omega arith))
    by (deletes q mine wait act g lines) =
        let home : q.home ≡ n = eqb-true q.home (w.nodes n).me mine ∙ me in
        begun (call.Delete q) (what.Deleting q ∷ []) wait lines
        (going q (now _ act) (subst (λ i. i < w.count) (sym home) f.few) (subst (λ i. (lifetime_of (v.nodes i) q).stage ≡ stage.Going n) (sym home) (ap (λ (m : Node). (lifetime_of m q).stage) there ∙ g)))
    by (comes part round wait act lines) = begun (call.Come part) (what.Come part ∷ []) wait lines (for_round part round (now _ act))

ready_is : (a : Activity) → is_ready a ≡ true → (answer : Answer) × (a ≡ Ready answer)
ready_is Free e = cc
ready_is (Waiting awaited) e = cc
ready_is (Ready answer) e = (answer, refl)

not_same : (i n : ℕ) → (i == n) ≡ false → i ≡ n → ⊥
not_same i n e s = let z = eq-eqb i n s in cc

-- another node's call
other_goes : (n i : ℕ) (w : World) (e : Event) (c k : Call) (front : List What) (o : Outcome) → i < w.count → Deed (w.nodes i) (Calls c) o → Facts n w → (i == n) ≡ false → Pending n w k front → Goes n k front (steps_node i e o w).world (lines_of_node n o.entries)
other_goes n i w e c k front o few d f apart p =
    let own = ap (λ x. x == n) (f.ground.known.fits i).me ∙ apart in
    let x = other_calls n (w.nodes i) c o d (f.ground.known.none i).node own in
    goes_calm n w _ k front _ x.0 (other_calm n w i e o few (deed_frame _ _ _ d) (not_same i n apart) x.1) p

other_idle : (n i : ℕ) (w : World) (e : Event) (c : Call) (o : Outcome) → Deed (w.nodes i) (Calls c) o → Facts n w → (i == n) ≡ false → (lines_of_node n o.entries ≡ []) × (((steps_node i e o w).world.nodes n).activity ≡ (w.nodes n).activity)
other_idle n i w e c o d f apart =
    let own = ap (λ x. x == n) (f.ground.known.fits i).me ∙ apart in
    ((other_calls n (w.nodes i) c o d (f.ground.known.none i).node own).0, ap (λ (m : Node). m.activity) (cond-false (i == n) _ _ apart))

-- Where node n waits.
pending_waits : (n : ℕ) (w : World) (c : Call) (front : List What) → Pending n w c front → (a : Awaited) × Now n w (Waiting a)
pending_waits n w c front (for_section x write q is e asked) = (_, e)
pending_waits n w c front (for_map q purged k lines f e some) = (_, e)
pending_waits n w c front (for_delete q k lines f e some) = (_, e)
pending_waits n w c front (going q e few g) = (_, e)
pending_waits n w c front (for_round part round e) = (_, e)

-- the answer that another node takes
taken_calm : (n i : ℕ) (w : World) (e : Event) (answer : Answer) → i < w.count → (i == n) ≡ false → Calm n w (steps_node i e (record { node = record (w.nodes i) { activity = Free }; answer = answer; entries = []; posts = [] }) w).world
taken_calm n i w e answer few apart =
    other_calm n w i e (record { node = record (w.nodes i) { activity = Free }; answer = answer; entries = []; posts = [] }) few (record { me = refl; nodes = refl; capacity = refl; inbox = refl; outbox = refl; parcels = refl }) (not_same i n apart) (λ q g. g)

pub waits_step : (n : ℕ) (w : World) (e : Event) (c : Call) (front : List What) → is_enabled e w ≡ true → Facts n w → Pending n w c front → (hears_of n e (step e w).answer ≡ []) × Goes n c front (step e w).world (lines_of_node n (step e w).entries)
unfolding step
waits_step n w (event.Call i c) k front may f p = go (i == n) refl
  where
    go : (b : Bool) → (i == n) ≡ b → ((if b then Called c (node_calls c (w.nodes i)).answer ∷ [] else []) ≡ []) × Goes n k front (steps_node i (event.Call i (noted_call (verdict (w.nodes i) c) c)) (node_calls c (w.nodes i)) w).world (lines_of_node n (node_calls c (w.nodes i)).entries)
    go true x = let free = ap (λ j. (w.nodes j).activity) (sym (eqb-true i n x)) ∙ (may_call i c w may).1 in let q = (pending_waits n w k front p).1 in cc
    go false x = (refl, other_goes n i w _ c k front _ (may_call i c w may).0 (call_deed (w.nodes i) c) f x p)
waits_step n w (event.Collect i) k front may f p = over (w.nodes i).activity refl (may_collect i w may).1
  where
    over : (a : Activity) → (w.nodes i).activity ≡ a → is_ready a ≡ true
        → ((if i == n then Collected (collects a (w.nodes i)).answer ∷ [] else []) ≡ []) × Goes n k front (steps_node i (event.Collect i) (collects a (w.nodes i)) w).world (lines_of_node n (collects a (w.nodes i)).entries)
    over Free e r = cc
    over (Waiting awaited) e r = cc
    over (Ready answer) e r = go (i == n) refl
      where
        go : (b : Bool) → (i == n) ≡ b → ((if b then Collected answer ∷ [] else []) ≡ []) × Goes n k front (steps_node i (event.Collect i) (collects (Ready answer) (w.nodes i)) w).world []
        go true x = let now = ap (λ j. (w.nodes j).activity) (sym (eqb-true i n x)) ∙ e in let q = (pending_waits n w k front p).1 in cc
        go false x = (refl, goes_calm n w _ k front [] refl (taken_calm n i w _ answer (collect_node i w may) x) p)
waits_step n w (event.Handle i place) k front may f p = (refl, moves_goes n w _ k front (turn_of w (event.Handle i place) may) refl f p)
waits_step n w (event.Carry i place) k front may f p = (refl, moves_goes n w _ k front (turn_of w (event.Carry i place) may) refl f p)

-- Where it is free.
stays_free : (n : ℕ) (w v : World) (new : List What) → Now n w Free → (new ≡ []) × ((v.nodes n).activity ≡ (w.nodes n).activity) → FreeStep n v [] new
stays_free n w v new free x = subst (FreeStep n v []) (sym x.0) (stays (x.1 ∙ free))

pub free_step : (n : ℕ) (w : World) (e : Event) → is_enabled e w ≡ true → Facts n w → Now n w Free → FreeStep n (step e w).world (hears_of n e (step e w).answer) (lines_of_node n (step e w).entries)
unfolding step
free_step n w (event.Call i c) may f free = go (i == n) refl
  where
    go : (b : Bool) → (i == n) ≡ b → FreeStep n (steps_node i (event.Call i (noted_call (verdict (w.nodes i) c) c)) (node_calls c (w.nodes i)) w).world (if b then Called c (node_calls c (w.nodes i)).answer ∷ [] else []) (lines_of_node n (node_calls c (w.nodes i)).entries)
    go true x =
        subst (λ j. FreeStep n (steps_node j (event.Call j (noted_call (verdict (w.nodes j) c) c)) (node_calls c (w.nodes j)) w).world (Called c (node_calls c (w.nodes j)).answer ∷ []) (lines_of_node n (node_calls c (w.nodes j)).entries)) (sym (eqb-true i n x))
        (own_call n w _ c _ (call_deed (w.nodes n) c) f
        (answered n n (w.nodes n) c (f.ground.known.fits n).me free (subst (λ j. is_call (w.nodes j) c (verdict (w.nodes j) c) ≡ true) (eqb-true i n x) (may_call i c w may).2) (f.ground.known.fits n) (f.sided n)))
    go false x = stays_free n w _ _ free (other_idle n i w _ c _ (call_deed (w.nodes i) c) f x)
free_step n w (event.Collect i) may f free = over (w.nodes i).activity refl (may_collect i w may).1
  where
    over : (a : Activity) → (w.nodes i).activity ≡ a → is_ready a ≡ true
        → FreeStep n (steps_node i (event.Collect i) (collects a (w.nodes i)) w).world (if i == n then Collected (collects a (w.nodes i)).answer ∷ [] else []) (lines_of_node n (collects a (w.nodes i)).entries)
    over Free e r = cc
    over (Waiting awaited) e r = cc
    over (Ready answer) e r = go (i == n) refl
      where
        go : (b : Bool) → (i == n) ≡ b → FreeStep n (steps_node i (event.Collect i) (collects (Ready answer) (w.nodes i)) w).world (if b then Collected answer ∷ [] else []) []
        go true x = let now = ap (λ j. (w.nodes j).activity) (sym (eqb-true i n x)) ∙ e in cc
        go false x = stays (ap (λ (m : Node). m.activity) (cond-false (i == n) _ _ x) ∙ free)
free_step n w (event.Handle i place) may f free = stays_free n w _ _ free (moves_idle n w _ (turn_of w (event.Handle i place) may) refl f (not_waiting n w Free free (λ b x. cc)))
free_step n w (event.Carry i place) may f free = stays_free n w _ _ free (moves_idle n w _ (turn_of w (event.Carry i place) may) refl f (not_waiting n w Free free (λ b x. cc)))

-- Where it is ready.
ready_same : (x y : Answer) → ◌≡◌ {A = Activity} (Ready x) (Ready y) → x ≡ y
ready_same x y e = cc

stays_ready : (n : ℕ) (w v : World) (answer : Answer) (new : List What) → Now n w (Ready answer) → (new ≡ []) × ((v.nodes n).activity ≡ (w.nodes n).activity) → ReadyStep n v answer [] new
stays_ready n w v answer new now x = subst (ReadyStep n v answer []) (sym x.0) (keeps (x.1 ∙ now))

pub ready_step : (n : ℕ) (w : World) (e : Event) (answer : Answer) → is_enabled e w ≡ true → Facts n w → Now n w (Ready answer) → ReadyStep n (step e w).world answer (hears_of n e (step e w).answer) (lines_of_node n (step e w).entries)
unfolding step
ready_step n w (event.Call i c) answer may f now = go (i == n) refl
  where
    go : (b : Bool) → (i == n) ≡ b → ReadyStep n (steps_node i (event.Call i (noted_call (verdict (w.nodes i) c) c)) (node_calls c (w.nodes i)) w).world answer (if b then Called c (node_calls c (w.nodes i)).answer ∷ [] else []) (lines_of_node n (node_calls c (w.nodes i)).entries)
    go true x = let free = ap (λ j. (w.nodes j).activity) (sym (eqb-true i n x)) ∙ (may_call i c w may).1 in cc
    go false x = stays_ready n w _ answer _ now (other_idle n i w _ c _ (call_deed (w.nodes i) c) f x)
ready_step n w (event.Collect i) answer may f now = over (w.nodes i).activity refl (may_collect i w may).1
  where
    over : (a : Activity) → (w.nodes i).activity ≡ a → is_ready a ≡ true
        → ReadyStep n (steps_node i (event.Collect i) (collects a (w.nodes i)) w).world answer (if i == n then Collected (collects a (w.nodes i)).answer ∷ [] else []) (lines_of_node n (collects a (w.nodes i)).entries)
    over Free e r = cc
    over (Waiting awaited) e r = cc
    over (Ready x) e r = go (i == n) refl
      where
        go : (b : Bool) → (i == n) ≡ b → ReadyStep n (steps_node i (event.Collect i) (collects (Ready x) (w.nodes i)) w).world answer (if b then Collected x ∷ [] else []) []
        go true s =
            let same : x ≡ answer = ready_same x answer (sym (ap (λ j. (w.nodes j).activity) (sym (eqb-true i n s)) ∙ e) ∙ now) in
            subst (λ y. ReadyStep n (steps_node i (event.Collect i) (collects (Ready x) (w.nodes i)) w).world answer (Collected y ∷ []) []) (sym same) (takes (ap (λ (m : Node). m.activity) (cond-true (i == n) _ _ s)))
        go false s = keeps (ap (λ (m : Node). m.activity) (cond-false (i == n) _ _ s) ∙ now)
ready_step n w (event.Handle i place) answer may f now = stays_ready n w _ answer _ now (moves_idle n w _ (turn_of w (event.Handle i place) may) refl f (not_waiting n w (Ready answer) now (λ b x. cc)))
ready_step n w (event.Carry i place) answer may f now = stays_ready n w _ answer _ now (moves_idle n w _ (turn_of w (event.Carry i place) may) refl f (not_waiting n w (Ready answer) now (λ b x. cc)))
