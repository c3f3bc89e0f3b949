-- Sizes agree: what is mapped, cached or told of a region is the size of its table.
use Rattle.std.proofs.Common.{◌≡◌, ℕ, ◌+◌, ◌-◌, ◌≤◌, ◌==◌, Bool, true, false, None, Some, Option, List, [], ◌∷◌, if◌then◌else◌, refl, ap, sym, ◌∙◌, subst, arith}
use Rattle.std.proofs.lemmas.Bool.{cond-true, cond-false, eqb-true, eq-eqb}
use Rattle.crl_model.specs.declared.name.Name.{Name}
use Rattle.crl_model.specs.declared.stage.Stage.{Stage}
use Rattle.crl_model.specs.declared.stage.Stage.TheVariants as stage
use Rattle.crl_model.specs.declared.call.Call.{Call}
use Rattle.crl_model.specs.declared.call.Refusal.{Refusal}
use Rattle.crl_model.specs.declared.entry.What.{What}
use Rattle.crl_model.specs.declared.event.Event.{Event}
use Rattle.crl_model.specs.declared.event.Event.TheVariants as event
use Rattle.crl_model.specs.declared.message.Message.{Message}
use Rattle.crl_model.specs.declared.message.Kind.TheVariants as kind
use Rattle.crl_model.specs.declared.message.Told.{Told}
use Rattle.crl_model.specs.declared.message.DeleteTold.{DeleteTold}
use Rattle.crl_model.specs.Names.{name_eq, at_name}
use Rattle.crl_protocol.specs.Home.{Home}
use Rattle.crl_protocol.specs.Lifetimes.{Mapping, Cached, new_mapping, cache_without, cache_with}
use Rattle.crl_protocol.specs.Node.{Node, Outcome, is_mine, home_of, lifetime_of, message_to}
use Rattle.crl_protocol.specs.Calls.{size_of}
use Rattle.crl_protocol.specs.World.{World, WorldStep, new_world, steps_node, commits, step, IsRunFrom, world_after}
use Rattle.crl_deeds.specs.Deeds.{Cause, Calls, parting, Copies, Lives, Rounds, Notes, Deed, copies, lives, rounds, notes, refuses, idles, Unfit, never, going, gone, home_opens, maps_more, maps_own, maps_cached, map_told, map_refused, map_comes, unmaps_one, unmaps_own, unmaps_doomed, unmaps_keeping, unmaps_evicting, deletes_own, deletes_for, dooms, drops, comes_away, flushes_own}
use Rattle.crl_deeds.specs.Counts.{Known}
use Rattle.crl_deeds.specs.NodeFacts.{LiveFits}
use Rattle.crl_deeds.specs.Tokens.{weigh, load, came}
use Rattle.crl_deeds.specs.Turns.{noted_as, Turn, calls, hears, gathers, answers, carriage, Held}
use Rattle.crl_deeds.proofs.Laws.{by_name, here_if, turn_of, weigh_append, sum_new, none_to}
use Rattle.crl_lifetime.proofs.Weights.{if_named, live_weight, Talk, live_talk, parting_none, copies_silent, rounds_silent, nothing, under}
use Rattle.crl_lifetime.proofs.Storing.{named_self, mapped_weight, stored_weight, entry_weight, stored_out, stored_in}
use Rattle.crl_lifetime.proofs.Cases.{at_true}
use Rattle.crl_lifetime.proofs.Home.{purges_silent}
use Rattle.crl_lifetime.proofs.Lived.{Lived, Spoken}
use Rattle.crl_lifetime.proofs.Pairs.{same_at, carried_at, flow_calls, flow_hears, flow_gathers, flow_answers, flow_carried, Followed, followed_start, followed_step}
use Rattle.crl_lifetime.proofs.Tables.{SameTable, table_deed}

-- sizes other than this
abbrev pub wrong : ℕ → ℕ → ℕ
wrong size other = if other == size then 0 else 1

-- the table doesn't have another size than this
abbrev pub Allows : ℕ → Option Home → Type 0
Allows size None = Unit {0}
Allows size (Some h) = h.size ≡ size

-- What a home tells of a region that is live is the size of its table.
zeros : (c b : Bool) → (if c then (if b then 0 else 0) else 0) + 0 ≡ 0
zeros true true = refl
zeros true false = refl
zeros false b = refl

refused : (f : ℕ → ℕ) (r : Name) (m : ℕ) (n : Node) (from : ℕ) (name : Name) (s : Stage) (why : Refusal) (t : Told) (d : DeleteTold) → Unfit s why t d → weigh (live_weight f m r) (message_to n from (kind.InfoIs name t) ∷ []) ≡ 0
refused f r m n from name s why t d never = zeros (from == m) (name_eq name r)
refused f r m n from name s why t d (going deleter) = zeros (from == m) (name_eq name r)
refused f r m n from name s why t d gone = zeros (from == m) (name_eq name r)

told_lives : (f : ℕ → ℕ) (r : Name) (m : ℕ) (n : Node) (cause : Cause) (o : Outcome) → Lives n cause o → (is_mine n r ≡ true → (lifetime_of n r).stage ≡ stage.Live → f (size_of (home_of n r)) ≡ 0) → weigh (live_weight f m r) o.posts ≡ 0
told_lives f r m n cause o (map_told from name mine is) h =
    by_name name (λ b q. (is_mine n q ≡ true → (lifetime_of n q).stage ≡ stage.Live → f (size_of (home_of n q)) ≡ 0) → (if from == m then (if b then f (size_of (home_of n name)) else 0) else 0) + 0 ≡ 0)
    (λ k. let z = k mine is in let y : (if from == m then f (size_of (home_of n name)) else 0) ≡ 0 = ap (λ x. if from == m then x else 0) z ∙ none_to (from == m) 0 in omega arith)
    (λ q other k. let z = none_to (from == m) 0 in omega arith) r h
told_lives f r m n cause o (map_refused from name why t d u) h = refused f r m n from name _ why t d u
told_lives f r m n cause o (unmaps_doomed name x e once other bad closed) h = parting_none (live_weight f m r) (live_talk f m r).mail n name (n.remotes name)
told_lives f r m n cause o (unmaps_evicting name x old e once other good closed kept) h = parting_none (live_weight f m r) (live_talk f m r).mail n old (n.remotes old)
told_lives f r m n cause o (deletes_own name x xs mine is e) h = purges_silent (live_weight f m r) (λ from to name. refl) n name _
told_lives f r m n cause o (deletes_for from name x xs mine is e) h = purges_silent (live_weight f m r) (λ from to name. refl) n name _
told_lives f r m n cause o (drops from name size e c) h =
    let a = weigh_append (live_weight f m r) (parting n name (n.remotes name)) (message_to n from (kind.Purged name) ∷ []) in
    let b = parting_none (live_weight f m r) (live_talk f m r).mail n name (n.remotes name) in omega arith
told_lives f r m n cause o _ h = refl

told_deed : (f : ℕ → ℕ) (r : Name) (m : ℕ) (n : Node) (cause : Cause) (o : Outcome) → Deed n cause o → (is_mine n r ≡ true → (lifetime_of n r).stage ≡ stage.Live → f (size_of (home_of n r)) ≡ 0) → weigh (live_weight f m r) o.posts ≡ 0
told_deed f r m n cause o (copies d) h = (copies_silent (live_weight f m r) (live_talk f m r).mail n cause o d).0
told_deed f r m n cause o (lives d) h = told_lives f r m n cause o d h
told_deed f r m n cause o (rounds d) h = (rounds_silent (live_weight f m r) (live_talk f m r) n cause o d).0
told_deed f r m n cause o (notes d) h = refl
told_deed f r m n cause o (refuses c why v) h = refl
told_deed f r m n cause o (idles i) h = refl

-- A node has of another home's region what it had, or what it was told.
entry_put : (f : ℕ → ℕ) (r : Name) (n : Node) (name : Name) (k : Option Mapping) (cache : List Cached) → mapped_weight f k + stored_weight f name cache ≤ mapped_weight f (n.maps name) + stored_weight f name n.cache
    → ((x : Name) → name_eq name x ≡ false → stored_weight f x cache ≤ stored_weight f x n.cache) → mapped_weight f (at_name n.maps name k r) + stored_weight f r cache ≤ entry_weight f r n
entry_put f r n name k cache here few = by_name name (λ b q. mapped_weight f (if b then k else n.maps q) + stored_weight f q cache ≤ entry_weight f q n) here (λ q other. let a = few q other in omega arith) r

map_is : (f : ℕ → ℕ) (n : Node) (name : Name) (k : Option Mapping) → n.maps name ≡ k → mapped_weight f (n.maps name) ≡ mapped_weight f k
map_is f n name k e = ap (mapped_weight f) e

entry_kept : (f : ℕ → ℕ) (r : Name) (n : Node) (name : Name) (m : Mapping) → n.maps name ≡ Some m
    → mapped_weight f (at_name n.maps name None r) + stored_weight f r (cache_with n.capacity (record { name = name; size = m.size }) n.cache).cache ≤ entry_weight f r n
entry_kept f r n name m e =
    let a = map_is f n name (Some m) e in
    let b = stored_in f name n.capacity (record { name = name; size = m.size }) n.cache in
    let c = named_self name (f m.size) in
    entry_put f r n name None _ (omega arith) (λ x other. let d = stored_in f x n.capacity (record { name = name; size = m.size }) n.cache in let g : if_named name x (f m.size) ≡ 0 = cond-false (name_eq name x) (f m.size) 0 other in omega arith)

entry_lives : (f : ℕ → ℕ) (r : Name) (m : ℕ) (n : Node) (cause : Cause) (o : Outcome) → Lives n cause o → n.me ≡ m → is_mine n r ≡ false → entry_weight f r o.node ≤ entry_weight f r n + came (live_weight f m r) n.me cause
entry_lives f r m n cause o (maps_more name x e few mine other) same away = let a = map_is f n name (Some x) e in let b = entry_put f r n name (Some (record x { count = x.count + 1 })) n.cache (omega arith) (λ y w. omega arith) in omega arith
entry_lives f r m n cause o (maps_own name e mine is) same away =
    by_name name (λ b q. is_mine n q ≡ false → mapped_weight f (if b then Some (new_mapping (size_of (home_of n name)) false) else n.maps q) + stored_weight f q n.cache ≤ entry_weight f q n + 0) (λ w. cc) (λ q other w. omega arith) r away
entry_lives f r m n cause o (maps_cached name size e other c) same away =
    let a = stored_out f name size n.cache c name in
    let b = named_self name (f size) in
    let d = entry_put f r n name (Some (new_mapping size false)) (cache_without name n.cache) (omega arith) (λ x w. let g = stored_out f name size n.cache c x in omega arith) in omega arith
entry_lives f r m n cause o (map_comes from name purged_it size e) same away =
    at_true (n.me == m) (λ c. mapped_weight f (at_name n.maps name (Some (new_mapping size purged_it)) r) + stored_weight f r n.cache ≤ entry_weight f r n + (if c then if_named name r (f size) else 0)) (eq-eqb n.me m same)
    (by_name name (λ b q. mapped_weight f (if b then Some (new_mapping size purged_it) else n.maps q) + stored_weight f q n.cache ≤ entry_weight f q n + (if b then f size else 0)) (omega arith) (λ q other. omega arith) r)
entry_lives f r m n cause o (unmaps_one name x e some more closed) same away = let a = map_is f n name (Some x) e in let b = entry_put f r n name (Some (record x { count = x.count - 1 })) n.cache (omega arith) (λ y w. omega arith) in omega arith
entry_lives f r m n cause o (unmaps_own name x e once mine closed) same away = let b = entry_put f r n name None n.cache (omega arith) (λ y w. omega arith) in omega arith
entry_lives f r m n cause o (unmaps_doomed name x e once other bad closed) same away = let b = entry_put f r n name None n.cache (omega arith) (λ y w. omega arith) in omega arith
entry_lives f r m n cause o (unmaps_keeping name x e once other good closed kept) same away = let b = entry_kept f r n name x e in omega arith
entry_lives f r m n cause o (unmaps_evicting name x old e once other good closed kept) same away = let b = entry_kept f r n name x e in omega arith
entry_lives f r m n cause o (dooms from name x e) same away = let a = map_is f n name (Some x) e in let b = entry_put f r n name (Some (record x { doomed = true })) n.cache (omega arith) (λ y w. omega arith) in omega arith
entry_lives f r m n cause o (drops from name size e c) same away = let a = stored_out f name size n.cache c r in omega arith
entry_lives f r m n cause o _ same away = omega arith

entry_copies : (f : ℕ → ℕ) (r : Name) (n : Node) (cause : Cause) (o : Outcome) → Copies n cause o → entry_weight f r o.node ≡ entry_weight f r n
entry_copies f r n cause o (home_opens c write name h is e v x) = refl
entry_copies f r n cause o _ = refl

entry_rounds : (f : ℕ → ℕ) (r : Name) (n : Node) (cause : Cause) (o : Outcome) → Rounds n cause o → entry_weight f r o.node ≡ entry_weight f r n
entry_rounds f r n cause o (comes_away part other fits) = refl
entry_rounds f r n cause o _ = refl

entry_notes : (f : ℕ → ℕ) (r : Name) (n : Node) (c : Call) (w : What) (k : Node) → Notes n c w k → entry_weight f r k ≡ entry_weight f r n
entry_notes f r n c w k (flushes_own name mine closed) = refl
entry_notes f r n c w k _ = refl

entry_deed : (f : ℕ → ℕ) (r : Name) (m : ℕ) (n : Node) (cause : Cause) (o : Outcome) → Deed n cause o → n.me ≡ m → is_mine n r ≡ false → entry_weight f r o.node ≤ entry_weight f r n + came (live_weight f m r) n.me cause
entry_deed f r m n cause o (copies d) same away = let a = entry_copies f r n cause o d in omega arith
entry_deed f r m n cause o (lives d) same away = entry_lives f r m n cause o d same away
entry_deed f r m n cause o (rounds d) same away = let a = entry_rounds f r n cause o d in omega arith
entry_deed f r m n cause o (notes d) same away = let a = entry_notes f r n _ _ _ d in omega arith
entry_deed f r m n cause o (refuses c why v) same away = omega arith
entry_deed f r m n cause o (idles h) same away = omega arith

-- Of a pair, for each size that the table allows.
abbrev pub SizesAt : Name → ℕ → World → Type 0
SizesAt r m w = (size : ℕ) → Allows size (home_of (w.nodes r.home) r) → entry_weight (wrong size) r (w.nodes m) + under (live_weight (wrong size) m r) w ≡ 0

allowed_before : (size : ℕ) (o p : Option Home) → SameTable o p → Allows size p → Allows size o
allowed_before size None p same h = tt
allowed_before size (Some h) p same k = let t = same h refl in sym t.2 ∙ subst (Allows size) t.1 k

live_size : (size : ℕ) (s : Stage) (o : Option Home) → LiveFits s o → s ≡ stage.Live → Allows size o → wrong size (size_of o) ≡ 0
live_size size stage.Live None f e a = absurd f
live_size size stage.Live (Some h) f e a = cond-true (h.size == size) 0 1 (eq-eqb h.size size a)
live_size size stage.Unknown o f e a = cc
live_size size (stage.Going deleter) o f e a = cc
live_size size stage.Gone o f e a = cc

sizes_deed : (w : World) (r : Name) (m : ℕ) → (r.home == m) ≡ false → (j : ℕ) (n : Node) (e : Event) (cause : Cause) (o : Outcome) → n.me ≡ j → Deed n cause o
    → ((q : Name) → is_mine n q ≡ true → LiveFits (lifetime_of n q).stage (home_of n q))
    → home_of n r ≡ home_of (w.nodes j) r → ((f : ℕ → ℕ) → entry_weight f r n ≡ entry_weight f r (w.nodes j))
    → ((f : Message → ℕ) → Talk f → under f (steps_node j e o w).world + came f n.me cause ≡ under f w + weigh f o.posts)
    → SizesAt r m w → SizesAt r m (steps_node j e o w).world
sizes_deed w r m apart j n e cause o me d live_here table entry flow g size ok = go (j == m) refl
  where
    v : World
    v = (steps_node j e o w).world

    after : Node
    after = commits w.events e o

    before : (b : Bool) → (j == r.home) ≡ b → Allows size (home_of (v.nodes r.home) r) → Allows size (home_of (w.nodes r.home) r)
    before true x k =
        let now : home_of (v.nodes r.home) r ≡ home_of o.node r = ap (λ (y : Node). home_of y r) (cond-true (j == r.home) after (w.nodes r.home) x) in
        let was : home_of n r ≡ home_of (w.nodes r.home) r = table ∙ ap (λ i. home_of (w.nodes i) r) (eqb-true j r.home x) in
        subst (Allows size) was (allowed_before size (home_of n r) (home_of o.node r) (table_deed r n cause o d) (subst (Allows size) now k))
    before false x k = subst (Allows size) (ap (λ (y : Node). home_of y r) (cond-false (j == r.home) after (w.nodes r.home) x)) k

    allowed : Allows size (home_of (w.nodes r.home) r)
    allowed = before (j == r.home) refl ok

    told : weigh (live_weight (wrong size) m r) o.posts ≡ 0
    told = told_deed (wrong size) r m n cause o d (λ mine is.
        let home : r.home ≡ j = eqb-true r.home n.me mine ∙ me in
        live_size size (lifetime_of n r).stage (home_of n r) (live_here r mine) is (subst (Allows size) (ap (λ i. home_of (w.nodes i) r) home ∙ sym table) allowed))

    go : (b : Bool) → (j == m) ≡ b → entry_weight (wrong size) r (v.nodes m) + under (live_weight (wrong size) m r) v ≡ 0
    go true x =
        let same = eqb-true j m x in
        let away : is_mine n r ≡ false = ap (λ i. r.home == i) (me ∙ same) ∙ apart in
        let few = entry_deed (wrong size) r m n cause o d (me ∙ same) away in
        let zero = g size allowed in
        let moved = flow (live_weight (wrong size) m r) (live_talk (wrong size) m r) in
        let was : entry_weight (wrong size) r n ≡ entry_weight (wrong size) r (w.nodes m) = entry (wrong size) ∙ ap (λ i. entry_weight (wrong size) r (w.nodes i)) same in
        let now : entry_weight (wrong size) r (v.nodes m) ≡ entry_weight (wrong size) r o.node = ap (entry_weight (wrong size) r) (cond-true (j == m) after (w.nodes m) x) in
        let silent = told in omega arith
    go false x =
        let zero = g size allowed in
        let moved = flow (live_weight (wrong size) m r) (live_talk (wrong size) m r) in
        let now : entry_weight (wrong size) r (v.nodes m) ≡ entry_weight (wrong size) r (w.nodes m) = ap (entry_weight (wrong size) r) (cond-false (j == m) after (w.nodes m) x) in
        let silent = told in omega arith

sizes_quiet : (w v : World) (r : Name) (m : ℕ) → home_of (v.nodes r.home) r ≡ home_of (w.nodes r.home) r → ((f : ℕ → ℕ) → entry_weight f r (v.nodes m) ≡ entry_weight f r (w.nodes m)) → ((f : Message → ℕ) → Talk f → under f v ≡ under f w) → SizesAt r m w → SizesAt r m v
sizes_quiet w v r m table entry flow g size ok =
    let a = g size (subst (Allows size) table ok) in
    let b = entry (wrong size) in
    let c = flow (live_weight (wrong size) m r) (live_talk (wrong size) m r) in omega arith

pub sizes_turn : (w : World) (v : WorldStep) (r : Name) (m : ℕ) → {e : Event} → Turn w e v → (r.home == m) ≡ false → Known w → Held (Lived w.count) (Spoken w.count) w → SizesAt r m w → SizesAt r m v.world
sizes_turn w v r m (calls j c o few free may d) apart x held g =
    sizes_deed w r m apart j (w.nodes j) (noted_as w j c) (Calls c) o (held j).node.counted.me d (λ q mine. (here_if j (w.nodes j) q mine (x.fits j)).live) refl (λ f. refl) (flow_calls w j (noted_as w j c) c o few d) g
sizes_turn w v r m (hears j place p rest parcels part o few took d) apart x held g =
    sizes_deed w r m apart j (record (w.nodes j) { inbox = rest; parcels = parcels }) (event.Handle j place) _ o (held j).node.counted.me d (λ q mine. (here_if j (w.nodes j) q mine (x.fits j)).live) refl (λ f. refl) (flow_hears w held j (event.Handle j place) p rest parcels part o few took d) g
sizes_turn w v r m (gathers j place p rest parcels key few took keyed) apart x held g =
    sizes_quiet w v.world r m (same_at (λ n. home_of n r) w.nodes j _ refl r.home) (λ f. same_at (entry_weight f r) w.nodes j _ refl m) (flow_gathers w j (event.Handle j place) p rest parcels key few took keyed) g
sizes_turn w v r m (answers j answer few ready) apart x held g =
    sizes_quiet w v.world r m (same_at (λ n. home_of n r) w.nodes j _ refl r.home) (λ f. same_at (entry_weight f r) w.nodes j _ refl m) (flow_answers w j (event.Collect j) answer few) g
sizes_turn w v r m (carriage i place p rest few took) apart x held g =
    sizes_quiet w v.world r m (carried_at (λ n. home_of n r) w i (event.Carry i place) p rest (λ n. refl) refl r.home) (λ f. carried_at (entry_weight f r) w i (event.Carry i place) p rest (λ n. refl) refl m) (flow_carried w held i (event.Carry i place) p rest few took) g

start_sizes : (count capacity : ℕ) (r : Name) (m : ℕ) → SizesAt r m (new_world count capacity)
start_sizes count capacity r m size ok = let a = sum_new (load (live_weight (wrong size) m r) nothing) count capacity (λ j. refl) in omega arith

pub sizes_run : (es : List Event) (w : World) (r : Name) (m : ℕ) → IsRunFrom w es → (r.home == m) ≡ false → Followed w → SizesAt r m w → SizesAt r m (world_after w es)
sizes_run [] w r m h apart x g = g
sizes_run (e ∷ es) w r m h apart x g = sizes_run es (step e w).world r m h.1 apart (followed_step w e h.0 x) (sizes_turn w _ r m (turn_of w e h.0) apart x.known x.held g)

pub sizes_agree : (count capacity : ℕ) (run : List Event) → IsRunFrom (new_world count capacity) run → (r : Name) (m : ℕ) → (r.home == m) ≡ false → SizesAt r m (world_after (new_world count capacity) run)
sizes_agree count capacity run h r m apart = sizes_run run (new_world count capacity) r m h apart (followed_start count capacity) (start_sizes count capacity r m)
