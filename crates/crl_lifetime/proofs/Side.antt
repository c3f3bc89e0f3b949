-- What a deed does to what a node has of another home's region.
use Rattle.std.proofs.Common.{◌≡◌, ℕ, ◌+◌, ◌-◌, ◌≤◌, ◌==◌, Bool, true, false, ◌||◌, None, Some, Option, List, [], ◌∷◌, if◌then◌else◌, refl, ap, sym, ◌∙◌, subst, arith}
use Rattle.std.proofs.lemmas.Bool.{cond_both, eq-eqb}
use Rattle.crl_model.specs.declared.name.Name.{Name}
use Rattle.crl_model.specs.declared.call.Call.{Call}
use Rattle.crl_model.specs.declared.entry.What.{What}
use Rattle.crl_model.specs.declared.message.Kind.TheVariants as kind
use Rattle.crl_model.specs.Names.{name_eq, at_name}
use Rattle.crl_protocol.specs.Lifetimes.{Mapping, Cached, new_mapping, cache_without, cache_with}
use Rattle.crl_protocol.specs.Node.{Node, ForMap, Activity, Free, Waiting, Ready, Mapped, Outcome, is_mine, home_of, message_to}
use Rattle.crl_protocol.specs.Calls.{size_of}
use Rattle.crl_protocol.specs.Handlers.{purges_waiting}
use Rattle.crl_deeds.specs.Deeds.{FreeIf, Cause, Calls, Hears, parting, Copies, Lives, Rounds, Notes, Idles, Deed, copies, lives, rounds, notes, refuses, idles, home_waits, side_waits, home_serves_own, grant_comes, maps_more, maps_own, maps_cached, map_asks, map_comes, map_denied, unmaps_one, unmaps_own, unmaps_doomed, unmaps_keeping, unmaps_evicting, deletes_own, delete_asks, deletes_for, delete_comes, dooms, drops, warns, ends_own, comes_away, comes_home, part_last, result_comes, flushes_own}
use Rattle.crl_deeds.specs.Tokens.{weigh, came, waits_map}
use Rattle.crl_deeds.proofs.Laws.{by_name, same_name, weigh_append, none_to}
use Rattle.crl_lifetime.specs.Lifetime.{one_if}
use Rattle.crl_lifetime.proofs.Weights.{if_named, live_weight, order_weight, answer_weight, order_talk, answer_talk, parting_none, copies_silent, rounds_silent}
use Rattle.crl_lifetime.proofs.Storing.{one, stored_weight, sound_map, doomed_map, marked_maps, mapped_weight, named_self, named_other, flag_few, two_maps, stored_none, stored_out, stored_in, marked_few}
use Rattle.crl_lifetime.proofs.Cases.{at_true}
use Rattle.crl_lifetime.proofs.Home.{purges_silent}
use Rattle.crl_lifetime.proofs.Having.{OneEach}
use Rattle.crl_lifetime.proofs.Rules.{AtSide, SideRule, stays, quits, maps, heeds}

-- a node with this mapping, so many entries in its cache, and this activity
abbrev pub of_side : Name → Option Mapping → ℕ → Activity → AtSide
of_side r m cached a = record { sound = sound_map m + cached; doomed = doomed_map m; marked = marked_maps r a; waits = waits_map r a }

abbrev pub at_side : Name → Node → AtSide
at_side r n = of_side r (n.maps r) (stored_weight one r n.cache) n.activity

abbrev Steps : Name → ℕ → Node → Cause → Outcome → Type 0
Steps r m n cause o = SideRule (at_side r n) (came (live_weight one m r) n.me cause) (came (order_weight m r) n.me cause) (weigh (answer_weight m r) o.posts) (at_side r o.node)

-- What is there stays, or less of it; and so with another activity.
less_stays : (r : Name) (m k : Option Mapping) (c d : ℕ) (a : Activity) (l p q : ℕ) → sound_map k + d ≤ sound_map m + c → doomed_map k ≤ doomed_map m → p ≡ 0 → q ≡ 0 → SideRule (of_side r m c a) l p q (of_side r k d a)
less_stays r m k c d a l p q x y z w = stays x y refl z w

less_quits : (r : Name) (m : Option Mapping) (c : ℕ) (a b : Activity) (l p q : ℕ) → marked_maps r b ≡ 0 → waits_map r b ≡ 0 → p ≡ 0 → q ≡ 0 → SideRule (of_side r m c a) l p q (of_side r m c b)
less_quits r m c a b l p q x y z w = quits (omega arith) (omega arith) x y z w

-- The entry of a name changes.
put_less : (r : Name) (n : Node) (name : Name) (k : Option Mapping) (cache : List Cached) (l p q : ℕ) → sound_map k + stored_weight one name cache ≤ sound_map (n.maps name) + stored_weight one name n.cache → doomed_map k ≤ doomed_map (n.maps name)
    → ((x : Name) → name_eq name x ≡ false → stored_weight one x cache ≤ stored_weight one x n.cache) → p ≡ 0 → q ≡ 0 → SideRule (at_side r n) l p q (of_side r (at_name n.maps name k r) (stored_weight one r cache) n.activity)
put_less r n name k cache l p q x y few z w =
    by_name name (λ b t. SideRule (at_side t n) l p q (of_side t (if b then k else n.maps t) (stored_weight one t cache) n.activity))
    (less_stays name (n.maps name) k _ _ n.activity l p q x y z w) (λ t other. let a = few t other in less_stays t (n.maps t) (n.maps t) _ _ n.activity l p q (omega arith) (omega arith) z w) r

sound_is : (n : Node) (name : Name) (m : Option Mapping) → n.maps name ≡ m → sound_map (n.maps name) ≡ sound_map m
sound_is n name m e = ap sound_map e

doomed_is : (n : Node) (name : Name) (m : Option Mapping) → n.maps name ≡ m → doomed_map (n.maps name) ≡ doomed_map m
doomed_is n name m e = ap doomed_map e

put_same : (r : Name) (n : Node) (name : Name) (m : Mapping) (k : Mapping) (l p q : ℕ) → n.maps name ≡ Some m → k.doomed ≡ m.doomed → p ≡ 0 → q ≡ 0 → SideRule (at_side r n) l p q (of_side r (at_name n.maps name (Some k) r) (stored_weight one r n.cache) n.activity)
put_same r n name m k l p q e same z w =
    let a = sound_is n name (Some m) e in
    let b = doomed_is n name (Some m) e in
    let c : sound_map (Some k) ≡ sound_map (Some m) = ap (λ x. if x then 0 else 1) same in
    let d : doomed_map (Some k) ≡ doomed_map (Some m) = ap (λ x. if x then 1 else 0) same in
    put_less r n name (Some k) n.cache l p q (omega arith) (omega arith) (λ x other. omega arith) z w

-- The last unmap: a sound entry goes into the cache.
put_kept : (r : Name) (n : Node) (name : Name) (m : Mapping) (l p q : ℕ) → n.maps name ≡ Some m → m.doomed ≡ false → p ≡ 0 → q ≡ 0
    → SideRule (at_side r n) l p q (of_side r (at_name n.maps name None r) (stored_weight one r (cache_with n.capacity (record { name = name; size = m.size }) n.cache).cache) n.activity)
put_kept r n name m l p q e good z w =
    let a = sound_is n name (Some m) e in
    let b : sound_map (Some m) ≡ 1 = ap (λ x. if x then 0 else 1) good in
    let c = stored_in one name n.capacity (record { name = name; size = m.size }) n.cache in
    let d = named_self name 1 in
    put_less r n name None (cache_with n.capacity (record { name = name; size = m.size }) n.cache).cache l p q (omega arith) (omega arith)
    (λ x other. let f = stored_in one x n.capacity (record { name = name; size = m.size }) n.cache in let g = named_other name x 1 other in omega arith) z w

few_marked : (q : Name) (a : Activity) → marked_maps q a ≤ 1
few_marked q (Waiting (ForMap p purged)) = cond_both (name_eq p q) (one_if purged) 0 (λ x. x ≤ 1) (λ w. flag_few purged) (λ w. omega arith)
few_marked q _ = omega arith

-- A purge heeded: the name has no sound entry any more, and no map that waits unmarked.
put_heeded : (r : Name) (m : ℕ) (n : Node) (name : Name) (k : Option Mapping) (cache : List Cached) (a : Activity) (l : ℕ) → n.me ≡ m → sound_map k + stored_weight one name cache ≡ 0 → waits_map name a ≤ marked_maps name a
    → ((x : Name) → name_eq name x ≡ false → stored_weight one x cache ≤ stored_weight one x n.cache) → ((x : Name) → name_eq name x ≡ false → marked_maps x a ≡ marked_maps x n.activity)
    → SideRule (at_side r n) l (if n.me == m then if_named name r 1 else 0) (if n.me == m then if_named name r 1 else 0) (of_side r (at_name n.maps name k r) (stored_weight one r cache) a)
put_heeded r m n name k cache a l same none warned few calm =
    at_true (n.me == m) (λ c. SideRule (at_side r n) l (if c then if_named name r 1 else 0) (if c then if_named name r 1 else 0) (of_side r (at_name n.maps name k r) (stored_weight one r cache) a)) (eq-eqb n.me m same)
    (by_name name (λ b t. SideRule (at_side t n) l (if b then 1 else 0) (if b then 1 else 0) (of_side t (if b then k else n.maps t) (stored_weight one t cache) a))
    (heeds refl refl none (let z = two_few k in omega arith) (few_marked name a) warned) (λ t other. let f = few t other in stays (omega arith) (omega arith) (calm t other) refl refl) r)
  where
    two_few : (o : Option Mapping) → doomed_map o ≤ 1
    two_few None = omega arith
    two_few (Some m) = flag_few m.doomed

-- the same where the name isn't mapped
kept_heeded : (r : Name) (m : ℕ) (n : Node) (name : Name) (cache : List Cached) (a : Activity) (l : ℕ) → n.me ≡ m → n.maps name ≡ None → stored_weight one name cache ≡ 0 → waits_map name a ≤ marked_maps name a
    → ((x : Name) → name_eq name x ≡ false → stored_weight one x cache ≤ stored_weight one x n.cache) → ((x : Name) → name_eq name x ≡ false → marked_maps x a ≡ marked_maps x n.activity)
    → SideRule (at_side r n) l (if n.me == m then if_named name r 1 else 0) (if n.me == m then if_named name r 1 else 0) (of_side r (n.maps r) (stored_weight one r cache) a)
kept_heeded r m n name cache a l same e none warned few calm =
    at_true (n.me == m) (λ c. SideRule (at_side r n) l (if c then if_named name r 1 else 0) (if c then if_named name r 1 else 0) (of_side r (n.maps r) (stored_weight one r cache) a)) (eq-eqb n.me m same)
    (by_name name (λ b t. SideRule (at_side t n) l (if b then 1 else 0) (if b then 1 else 0) (of_side t (n.maps t) (stored_weight one t cache) a))
    (let x = sound_is n name None e in let y = doomed_is n name None e in heeds refl refl (omega arith) (omega arith) (few_marked name a) warned) (λ t other. let f = few t other in stays (omega arith) (omega arith) (calm t other) refl refl) r)

sent_as : (s t : AtSide) (l p q x : ℕ) → q ≡ x → SideRule s l p x t → SideRule s l p q t
sent_as s t l p q x e h = subst (λ y. SideRule s l p y t) (sym e) h

-- what a Purge does to a map that waits
warned_name : (name : Name) (a : Activity) → waits_map name (purges_waiting name a) ≤ marked_maps name (purges_waiting name a)
warned_name name (Waiting (ForMap p purged)) = go (name_eq p name) purged
  where
    go : (b c : Bool) → (if b then 1 else 0) ≤ (if b then one_if (c || b) else 0)
    go true true = omega arith
    go true false = omega arith
    go false c = omega arith
warned_name name _ = omega arith

warned_other : (name x : Name) (a : Activity) → name_eq name x ≡ false → marked_maps x (purges_waiting name a) ≡ marked_maps x a
warned_other name x (Waiting (ForMap p purged)) other = go (name_eq p name) (name_eq p x) refl refl purged
  where
    go : (b c : Bool) → name_eq p name ≡ b → name_eq p x ≡ c → (d : Bool) → (if c then one_if (d || b) else 0) ≡ (if c then one_if d else 0)
    go b false e f d = refl
    go false true e f true = refl
    go false true e f false = refl
    go true true e f d = absurd (let s = same_name p name e in let t = ap (λ y. name_eq y x) s in cc)
warned_other name x _ other = refl

-- a map that waits is done
maps_rule : (r : Name) (m : ℕ) (n : Node) (name : Name) (purged_it : Bool) (size : ℕ) (answer : Activity) → n.me ≡ m → n.activity ≡ Waiting (ForMap name purged_it) → OneEach n → ((q : Name) → marked_maps q answer ≡ 0) → ((q : Name) → waits_map q answer ≡ 0)
    → SideRule (at_side r n) (if n.me == m then if_named name r 1 else 0) 0 0 (of_side r (at_name n.maps name (Some (new_mapping size purged_it)) r) (stored_weight one r n.cache) answer)
maps_rule r m n name purged_it size answer same e each calm still =
    at_true (n.me == m) (λ c. SideRule (at_side r n) (if c then if_named name r 1 else 0) 0 0 (of_side r (at_name n.maps name (Some (new_mapping size purged_it)) r) (stored_weight one r n.cache) answer)) (eq-eqb n.me m same)
    (by_name name (λ b t. SideRule (at_side t n) (if b then 1 else 0) 0 0 (of_side t (if b then Some (new_mapping size purged_it) else n.maps t) (stored_weight one t n.cache) answer))
    here (λ t other. quits (omega arith) (omega arith) (calm t) (still t) refl refl) r)
  where
    here : SideRule (at_side name n) 1 0 0 (of_side name (Some (new_mapping size purged_it)) (stored_weight one name n.cache) answer)
    here =
        let a = each name in
        let b : waits_map name n.activity ≡ if_named name name 1 = ap (waits_map name) e in
        let c = named_self name 1 in
        let d : marked_maps name n.activity ≡ if_named name name (one_if purged_it) = ap (marked_maps name) e in
        let f = named_self name (one_if purged_it) in
        let g = two_maps (Some (new_mapping size purged_it)) in
        maps refl (omega arith) (omega arith) (calm name) (still name) refl refl

free_marked : (r : Name) (a : Activity) → a ≡ Free → marked_maps r a ≡ 0
free_marked r a e = ap (marked_maps r) e

side_lives : (r : Name) (m : ℕ) (n : Node) (cause : Cause) (o : Outcome) → Lives n cause o → n.me ≡ m → FreeIf cause n → is_mine n r ≡ false → OneEach n → Steps r m n cause o
side_lives r m n cause o (maps_more name x e few mine other) same free away each = put_same r n name x (record x { count = x.count + 1 }) 0 0 0 e refl refl refl
side_lives r m n cause o (maps_own name e mine live) same free away each =
    by_name name (λ b t. is_mine n t ≡ false → SideRule (at_side t n) 0 0 0 (of_side t (if b then Some (new_mapping (size_of (home_of n name)) false) else n.maps t) (stored_weight one t n.cache) n.activity))
    (λ w. cc) (λ t other w. stays (omega arith) (omega arith) refl refl refl) r away
side_lives r m n cause o (maps_cached name size e other c) same free away each =
    let a = stored_out one name size n.cache c name in
    let b = named_self name 1 in
    put_less r n name (Some (new_mapping size false)) (cache_without name n.cache) 0 0 0 (omega arith) (omega arith) (λ x w. let d = stored_out one name size n.cache c x in omega arith) refl refl
side_lives r m n cause o (map_asks name e other c real) same free away each = stays (omega arith) (omega arith) (none_to (name_eq name r) 0 ∙ sym (free_marked r n.activity free)) refl refl
side_lives r m n cause o (map_comes from name purged_it size e) same free away each = maps_rule r m n name purged_it size (Ready (Mapped name size)) same e each (λ q. refl) (λ q. refl)
side_lives r m n cause o (map_denied from name purged_it s why t d u e) same free away each = quits (omega arith) (omega arith) refl refl refl refl
side_lives r m n cause o (unmaps_one name x e some more closed) same free away each = put_same r n name x (record x { count = x.count - 1 }) 0 0 0 e refl refl refl
side_lives r m n cause o (unmaps_own name x e once mine closed) same free away each = put_less r n name None n.cache 0 0 0 (omega arith) (omega arith) (λ x w. omega arith) refl refl
side_lives r m n cause o (unmaps_doomed name x e once other bad closed) same free away each =
    put_less r n name None n.cache 0 0 _ (omega arith) (omega arith) (λ x w. omega arith) refl (parting_none (answer_weight m r) (answer_talk m r).mail n name (n.remotes name))
side_lives r m n cause o (unmaps_keeping name x e once other good closed kept) same free away each = put_kept r n name x 0 0 0 e good refl refl
side_lives r m n cause o (unmaps_evicting name x old e once other good closed kept) same free away each =
    put_kept r n name x 0 0 _ e good refl (parting_none (answer_weight m r) (answer_talk m r).mail n old (n.remotes old))
side_lives r m n cause o (deletes_own name x xs mine is e) same free away each = quits (omega arith) (omega arith) refl refl refl (purges_silent (answer_weight m r) (λ from to name. refl) n name _)
side_lives r m n cause o (delete_asks name other real) same free away each = quits (omega arith) (omega arith) refl refl refl refl
side_lives r m n cause o (deletes_for from name x xs mine is e) same free away each = stays (omega arith) (omega arith) refl refl (purges_silent (answer_weight m r) (λ from to name. refl) n name _)
side_lives r m n cause o (delete_comes from name d e) same free away each = quits (omega arith) (omega arith) refl refl refl refl
side_lives r m n cause o (dooms from name x e) same free away each =
    let a = each name in
    let b : mapped_weight one (n.maps name) ≡ 1 = ap (mapped_weight one) e in
    let c = marked_few name n.activity in
    sent_as _ _ _ _ _ _ (omega arith) (put_heeded r m n name (Some (record x { doomed = true })) n.cache n.activity 0 same (omega arith) (omega arith) (λ x w. omega arith) (λ x w. refl))
side_lives r m n cause o (drops from name size e c) same free away each =
    let a = each name in
    let b = stored_out one name size n.cache c name in
    let d = named_self name 1 in
    let f = marked_few name n.activity in
    let g = parting_none (answer_weight m r) (answer_talk m r).mail n name (n.remotes name) in
    let h = weigh_append (answer_weight m r) (parting n name (n.remotes name)) (message_to n from (kind.Purged name) ∷ []) in
    sent_as _ _ _ _ _ _ (omega arith) (kept_heeded r m n name (cache_without name n.cache) n.activity 0 same e (omega arith) (omega arith) (λ x w. let y = stored_out one name size n.cache c x in omega arith) (λ x w. refl))
side_lives r m n cause o (warns from name e c) same free away each =
    let a = stored_none one name n.cache c in
    sent_as _ _ _ _ _ _ (omega arith) (kept_heeded r m n name n.cache (purges_waiting name n.activity) 0 same e a (warned_name name n.activity) (λ x w. omega arith) (λ x w. warned_other name x n.activity w))
side_lives r m n cause o (ends_own from name mine e missing last) same free away each = quits (omega arith) (omega arith) refl refl refl refl
side_lives r m n cause o _ same free away each = stays (omega arith) (omega arith) refl refl refl

-- Copies and rounds change nothing of it but what the node waits for.
side_copies : (r : Name) (n : Node) (cause : Cause) (o : Outcome) (l p q : ℕ) → Copies n cause o → p ≡ 0 → q ≡ 0 → SideRule (at_side r n) l p q (at_side r o.node)
side_copies r n cause o l p q (home_waits c write name h is e v x) z w = quits (omega arith) (omega arith) refl refl z w
side_copies r n cause o l p q (side_waits c write name x is e f v y) z w = quits (omega arith) (omega arith) refl refl z w
side_copies r n cause o l p q (home_serves_own from k name h s is e x) z w = quits (omega arith) (omega arith) refl refl z w
side_copies r n cause o l p q (grant_comes from name version g x e t) z w = quits (omega arith) (omega arith) refl refl z w
side_copies r n cause o l p q _ z w = stays (omega arith) (omega arith) refl z w

side_rounds : (r : Name) (n : Node) (cause : Cause) (o : Outcome) (l p q : ℕ) → Rounds n cause o → p ≡ 0 → q ≡ 0 → SideRule (at_side r n) l p q (at_side r o.node)
side_rounds r n cause o l p q (comes_away part other fits) z w = quits (omega arith) (omega arith) refl refl z w
side_rounds r n cause o l p q (comes_home part first fits all) z w = quits (omega arith) (omega arith) refl refl z w
side_rounds r n cause o l p q (part_last from round part parts mine k e a full) z w = quits (omega arith) (omega arith) refl refl z w
side_rounds r n cause o l p q (result_comes from round fold k e) z w = quits (omega arith) (omega arith) refl refl z w
side_rounds r n cause o l p q _ z w = stays (omega arith) (omega arith) refl z w

side_notes : (r : Name) (n : Node) (c : Call) (w : What) (k : Node) → Notes n c w k → SideRule (at_side r n) 0 0 0 (at_side r k)
side_notes r n c w k (flushes_own name mine closed) = stays (omega arith) (omega arith) refl refl refl
side_notes r n c w k _ = stays (omega arith) (omega arith) refl refl refl

side_idles : (r : Name) (m : ℕ) (n : Node) (cause : Cause) → Idles cause n → SideRule (at_side r n) (came (live_weight one m r) n.me cause) (came (order_weight m r) n.me cause) 0 (at_side r n)
side_idles r m n (Calls c) h = stays (omega arith) (omega arith) refl refl refl
side_idles r m n (Hears from (kind.Purge name)) h = absurd h
side_idles r m n (Hears from _) h = stays (omega arith) (omega arith) refl refl refl

pub side_deed : (r : Name) (m : ℕ) (n : Node) (cause : Cause) (o : Outcome) → Deed n cause o → n.me ≡ m → FreeIf cause n → is_mine n r ≡ false → OneEach n → Steps r m n cause o
side_deed r m n cause o (copies d) same free away each =
    side_copies r n cause o _ _ _ d (copies_silent (order_weight m r) (order_talk m r).mail n cause o d).1 (copies_silent (answer_weight m r) (answer_talk m r).mail n cause o d).0
side_deed r m n cause o (lives d) same free away each = side_lives r m n cause o d same free away each
side_deed r m n cause o (rounds d) same free away each =
    side_rounds r n cause o _ _ _ d (rounds_silent (order_weight m r) (order_talk m r) n cause o d).1 (rounds_silent (answer_weight m r) (answer_talk m r) n cause o d).0
side_deed r m n cause o (notes d) same free away each = side_notes r n _ _ _ d
side_deed r m n cause o (refuses c why v) same free away each = stays (omega arith) (omega arith) refl refl refl
side_deed r m n cause o (idles h) same free away each = side_idles r m n cause h
