-- What a node has of other nodes' regions is mapped or cached, and never both.
use Rattle.std.proofs.Common.{◌≡◌, ◌⊎◌, inl, inr, ℕ, ◌==◌, nat_lt, Bool, true, false, None, Some, Option, List, [], ◌∷◌, ◌++◌, length, if◌then◌else◌, refl, sym, ◌∙◌, subst}
use Rattle.std.proofs.lemmas.Bool.{cond_both, cond-true, cond-false}
use Rattle.crl_model.specs.declared.name.Name.{Name}
use Rattle.crl_model.specs.Names.{name_eq, at_name}
use Rattle.crl_protocol.specs.Remote.{Remote}
use Rattle.crl_protocol.specs.Lifetimes.{Mapping, Cached, CacheStep, push_out, cache_with, cache_without}
use Rattle.crl_model.specs.declared.call.Call.{Call}
use Rattle.crl_model.specs.declared.entry.What.{What}
use Rattle.crl_protocol.specs.Node.{Node, Outcome, is_mine}
use Rattle.crl_deeds.specs.Deeds.{Cause, Copies, Lives, Rounds, Notes, Deed, copies, lives, rounds, notes, side_opens, side_waits, side_ends, side_flushes, grant_comes, side_called, maps_more, maps_own, maps_cached, map_comes, unmaps_one, unmaps_own, unmaps_doomed, unmaps_keeping, unmaps_evicting, dooms, drops, comes_away, flushes_own}
use Rattle.crl_deeds.proofs.Laws.{by_name, same_name, name_self, other_name, kept_dropped, kept_more}
use Rattle.crl_deeds.specs.NodeFacts.{IsCached, FreshFits}

-- no name stands in the cache twice
abbrev pub Once : List Cached → Type 0
Once [] = Unit {0}
Once (k ∷ ks) = ((size : ℕ) → IsCached k.name size ks → ⊥) × Once ks

pub record MappedOrCached (me : ℕ) (maps : Name → Option Mapping) (remotes : Name → Option Remote) (cache : List Cached) : Type 0 where
  pub cached : (q : Name) (size : ℕ) → IsCached q size cache → maps q ≡ None
  pub held : (q : Name) (r : Remote) → remotes q ≡ Some r → maps q ≡ None → (size : ℕ) × IsCached q size cache
  pub others : (q : Name) (size : ℕ) → IsCached q size cache → (q.home == me) ≡ false
  pub once : Once cache

-- the same, where nothing is said of what is there of one name
pub record MappedOrCachedBut (name : Name) (me : ℕ) (maps : Name → Option Mapping) (remotes : Name → Option Remote) (cache : List Cached) : Type 0 where
  pub cached : (q : Name) (size : ℕ) → IsCached q size cache → maps q ≡ None
  pub held : (q : Name) (r : Remote) → name_eq name q ≡ false → remotes q ≡ Some r → maps q ≡ None → (size : ℕ) × IsCached q size cache
  pub others : (q : Name) (size : ℕ) → IsCached q size cache → (q.home == me) ≡ false
  pub once : Once cache

pub but_none : (name : Name) (me : ℕ) (maps : Name → Option Mapping) (remotes : Name → Option Remote) (cache : List Cached) → remotes name ≡ None → MappedOrCachedBut name me maps remotes cache → MappedOrCached me maps remotes cache
but_none name me maps remotes cache none h = record {
  cached = h.cached;
  held = by_name name (λ b q. (r : Remote) → remotes q ≡ Some r → maps q ≡ None → (size : ℕ) × IsCached q size cache) (λ r e m. absurd (cc)) (λ q other r e m. h.held q r other e m);
  others = h.others;
  once = h.once;
}

pub but_forgotten : (name : Name) (me : ℕ) (maps : Name → Option Mapping) (remotes : Name → Option Remote) (cache : List Cached) → MappedOrCachedBut name me maps remotes cache → MappedOrCached me maps (at_name remotes name None) cache
but_forgotten name me maps remotes cache h = record {
  cached = h.cached;
  held = by_name name (λ b q. (r : Remote) → (if b then None else remotes q) ≡ Some r → maps q ≡ None → (size : ℕ) × IsCached q size cache) (λ r e m. absurd (cc)) (λ q other r e m. h.held q r other e m);
  others = h.others;
  once = h.once;
}

-- a node's side of a region that is there changes
pub mapped_some : (name : Name) (r s : Remote) (me : ℕ) (maps : Name → Option Mapping) (remotes : Name → Option Remote) (cache : List Cached) → remotes name ≡ Some r → MappedOrCached me maps remotes cache
    → MappedOrCached me maps (at_name remotes name (Some s)) cache
mapped_some name r s me maps remotes cache e h = record {
  cached = h.cached;
  held = by_name name (λ b q. (x : Remote) → (if b then Some s else remotes q) ≡ Some x → maps q ≡ None → (size : ℕ) × IsCached q size cache) (λ x w m. h.held name r e m) (λ q other x w m. h.held q x w m);
  others = h.others;
  once = h.once;
}

-- Mapped once more, mapped anew, and mapped for the first time.
pub mapped_more : (name : Name) (m k : Mapping) (me : ℕ) (maps : Name → Option Mapping) (remotes : Name → Option Remote) (cache : List Cached) → maps name ≡ Some m → MappedOrCached me maps remotes cache
    → MappedOrCached me (at_name maps name (Some k)) remotes cache
mapped_more name m k me maps remotes cache e h = record {
  cached = by_name name (λ b q. (size : ℕ) → IsCached q size cache → (if b then Some k else maps q) ≡ None) (λ size c. absurd (let w = h.cached name size c in cc)) (λ q other size c. h.cached q size c);
  held = by_name name (λ b q. (r : Remote) → remotes q ≡ Some r → (if b then Some k else maps q) ≡ None → (size : ℕ) × IsCached q size cache) (λ r w n. absurd (cc)) (λ q other r w n. h.held q r w n);
  others = h.others;
  once = h.once;
}

pub mapped_own : (name : Name) (k : Mapping) (me : ℕ) (maps : Name → Option Mapping) (remotes : Name → Option Remote) (cache : List Cached) → (name.home == me) ≡ true → MappedOrCached me maps remotes cache
    → MappedOrCached me (at_name maps name (Some k)) remotes cache
mapped_own name k me maps remotes cache mine h = record {
  cached = by_name name (λ b q. (size : ℕ) → IsCached q size cache → (if b then Some k else maps q) ≡ None) (λ size c. absurd (let w = h.others name size c in cc)) (λ q other size c. h.cached q size c);
  held = by_name name (λ b q. (r : Remote) → remotes q ≡ Some r → (if b then Some k else maps q) ≡ None → (size : ℕ) × IsCached q size cache) (λ r w n. absurd (cc)) (λ q other r w n. h.held q r w n);
  others = h.others;
  once = h.once;
}

pub mapped_new : (name : Name) (k : Mapping) (s : Remote) (me : ℕ) (maps : Name → Option Mapping) (remotes : Name → Option Remote) (cache : List Cached)
    → ((size : ℕ) → IsCached name size cache → ⊥) → MappedOrCached me maps remotes cache → MappedOrCached me (at_name maps name (Some k)) (at_name remotes name (Some s)) cache
mapped_new name k s me maps remotes cache fresh h = record {
  cached = by_name name (λ b q. (size : ℕ) → IsCached q size cache → (if b then Some k else maps q) ≡ None) (λ size c. absurd (fresh size c)) (λ q other size c. h.cached q size c);
  held = by_name name (λ b q. (r : Remote) → (if b then Some s else remotes q) ≡ Some r → (if b then Some k else maps q) ≡ None → (size : ℕ) × IsCached q size cache) (λ r w n. absurd (cc)) (λ q other r w n. h.held q r w n);
  others = h.others;
  once = h.once;
}

-- A name is dropped from the cache.
gone_dropped : (name : Name) (cache : List Cached) (size : ℕ) → Once cache → IsCached name size (cache_without name cache) → ⊥
gone_dropped name [] size o c = c
gone_dropped name (k ∷ ks) size o c = either (name_eq k.name name) refl (λ z w. gone_dropped name ks z o.1 w) c
  where
    either : (b : Bool) → name_eq k.name name ≡ b → ((z : ℕ) → IsCached name z (cache_without name ks) → ⊥) → IsCached name size (if b then ks else k ∷ cache_without name ks) → ⊥
    either true e rest c = o.0 size (subst (λ x. IsCached x size ks) (sym (same_name k.name name e)) c)
    either false e rest (inl w) = other_name k.name name e w.0
    either false e rest (inr w) = rest size w

stays_dropped : (name q : Name) (cache : List Cached) (size : ℕ) → name_eq name q ≡ false → IsCached q size cache → IsCached q size (cache_without name cache)
stays_dropped name q [] size e c = c
stays_dropped name q (k ∷ ks) size e c = either (name_eq k.name name) refl (λ w. stays_dropped name q ks size e w) c
  where
    either : (b : Bool) → name_eq k.name name ≡ b → (IsCached q size ks → IsCached q size (cache_without name ks)) → IsCached q size (k ∷ ks) → IsCached q size (if b then ks else k ∷ cache_without name ks)
    either true w rest (inl u) = absurd (other_name name q e (sym (same_name k.name name w) ∙ u.0))
    either true w rest (inr u) = u
    either false w rest (inl u) = inl u
    either false w rest (inr u) = inr (rest u)

once_dropped : (name : Name) (cache : List Cached) → Once cache → Once (cache_without name cache)
once_dropped name [] o = tt
once_dropped name (k ∷ ks) o = cond_both (name_eq k.name name) ks (k ∷ cache_without name ks) Once (λ w. o.1) (λ w. ((λ size c. o.0 size (kept_dropped name k.name size ks c)), once_dropped name ks o.1))

pub mapped_cached : (name : Name) (k : Mapping) (me : ℕ) (maps : Name → Option Mapping) (remotes : Name → Option Remote) (cache : List Cached) → MappedOrCached me maps remotes cache
    → MappedOrCached me (at_name maps name (Some k)) remotes (cache_without name cache)
mapped_cached name k me maps remotes cache h = record {
  cached = by_name name (λ b q. (size : ℕ) → IsCached q size (cache_without name cache) → (if b then Some k else maps q) ≡ None) (λ size c. absurd (gone_dropped name cache size h.once c))
      (λ q other size c. h.cached q size (kept_dropped name q size cache c));
  held = by_name name (λ b q. (r : Remote) → remotes q ≡ Some r → (if b then Some k else maps q) ≡ None → (size : ℕ) × IsCached q size (cache_without name cache)) (λ r w n. absurd (cc))
      (λ q other r w n. let c = h.held q r w n in (c.0, stays_dropped name q cache c.0 other c.1));
  others = λ q size c. h.others q size (kept_dropped name q size cache c);
  once = once_dropped name cache h.once;
}

pub but_dropped : (name : Name) (me : ℕ) (maps : Name → Option Mapping) (remotes : Name → Option Remote) (cache : List Cached) → MappedOrCached me maps remotes cache
    → MappedOrCachedBut name me maps remotes (cache_without name cache)
but_dropped name me maps remotes cache h = record {
  cached = λ q size c. h.cached q size (kept_dropped name q size cache c);
  held = λ q r other w n. let c = h.held q r w n in (c.0, stays_dropped name q cache c.0 other c.1);
  others = λ q size c. h.others q size (kept_dropped name q size cache c);
  once = once_dropped name cache h.once;
}

-- The last unmap.
unmapped_at : (name : Name) (maps : Name → Option Mapping) (cache : List Cached) → ((q : Name) (size : ℕ) → IsCached q size cache → maps q ≡ None) → (q : Name) (size : ℕ) → IsCached q size cache → at_name maps name None q ≡ None
unmapped_at name maps cache h = by_name name (λ b q. (size : ℕ) → IsCached q size cache → (if b then None else maps q) ≡ None) (λ size c. refl) (λ q other size c. h q size c)

pub but_unmapped : (name : Name) (me : ℕ) (maps : Name → Option Mapping) (remotes : Name → Option Remote) (cache : List Cached) → MappedOrCached me maps remotes cache
    → MappedOrCachedBut name me (at_name maps name None) remotes cache
but_unmapped name me maps remotes cache h = record {
  cached = unmapped_at name maps cache h.cached;
  held = λ q r other w n. h.held q r w (sym (cond-false (name_eq name q) None (maps q) other) ∙ n);
  others = h.others;
  once = h.once;
}

once_more : (new : Cached) (cache : List Cached) → ((size : ℕ) → IsCached new.name size cache → ⊥) → Once cache → Once (cache ++ new ∷ [])
once_more new [] fresh o = ((λ size c. c), tt)
once_more new (k ∷ ks) fresh o = ((λ size c. either size (kept_more k.name size new ks c)), once_more new ks (λ size c. fresh size (inr c)) o.1)
  where
    either : (size : ℕ) → ((new.name ≡ k.name) × (new.size ≡ size)) ⊎ IsCached k.name size ks → ⊥
    either size (inl w) = fresh k.size (inl (sym w.0, refl))
    either size (inr w) = o.0 size w

put_last : (new : Cached) (cache : List Cached) → IsCached new.name new.size (cache ++ new ∷ [])
put_last new [] = inl (refl, refl)
put_last new (k ∷ ks) = inr (put_last new ks)

put_stays : (q : Name) (size : ℕ) (new : Cached) (cache : List Cached) → IsCached q size cache → IsCached q size (cache ++ new ∷ [])
put_stays q size new [] c = absurd c
put_stays q size new (k ∷ ks) (inl w) = inl w
put_stays q size new (k ∷ ks) (inr w) = inr (put_stays q size new ks w)

-- what is in a part of the cache, with one name more behind it
put_in : (name : Name) (size : ℕ) (me : ℕ) (maps : Name → Option Mapping) (remotes : Name → Option Remote) (part : List Cached) (P : Name → Type 0)
    → (name.home == me) ≡ false → ((z : ℕ) → IsCached name z part → ⊥)
    → ((q : Name) (z : ℕ) → IsCached q z part → maps q ≡ None) → ((q : Name) (z : ℕ) → IsCached q z part → (q.home == me) ≡ false) → Once part
    → ((q : Name) (r : Remote) → P q → remotes q ≡ Some r → maps q ≡ None → (z : ℕ) × IsCached q z part)
    → let cache = part ++ record { name = name; size = size } ∷ [] in
    ((q : Name) (z : ℕ) → IsCached q z cache → at_name maps name None q ≡ None) × ((q : Name) (z : ℕ) → IsCached q z cache → (q.home == me) ≡ false) × Once cache
    × ((q : Name) (r : Remote) → P q → remotes q ≡ Some r → at_name maps name None q ≡ None → (z : ℕ) × IsCached q z cache)
put_in name size me maps remotes part P away fresh cached others once held =
    ((λ q z c. of_more q z (kept_more q z new part c)), (λ q z c. away_more q z (kept_more q z new part c)), once_more new part fresh once, its)
  where
    new : Cached
    new = record { name = name; size = size }

    of_more : (q : Name) (z : ℕ) → ((name ≡ q) × (size ≡ z)) ⊎ IsCached q z part → at_name maps name None q ≡ None
    of_more q z (inl w) = subst (λ x. at_name maps name None x ≡ None) w.0 (cond-true (name_eq name name) _ _ (name_self name))
    of_more q z (inr w) = unmapped_at name maps part cached q z w

    away_more : (q : Name) (z : ℕ) → ((name ≡ q) × (size ≡ z)) ⊎ IsCached q z part → (q.home == me) ≡ false
    away_more q z (inl w) = subst (λ (x : Name). (x.home == me) ≡ false) w.0 away
    away_more q z (inr w) = others q z w

    its : (q : Name) (r : Remote) → P q → remotes q ≡ Some r → at_name maps name None q ≡ None → (z : ℕ) × IsCached q z (part ++ new ∷ [])
    its = by_name name (λ b q. (r : Remote) → P q → remotes q ≡ Some r → (if b then None else maps q) ≡ None → (z : ℕ) × IsCached q z (part ++ new ∷ []))
        (λ r p w n. (size, put_last new part)) (λ q other r p w n. let c = held q r p w n in (c.0, put_stays q c.0 new part c.1))

-- what is left after the name was put into the cache, but for the name that the cache gives up
abbrev pub LeftBut : Option Name → ℕ → (Name → Option Mapping) → (Name → Option Remote) → List Cached → Type 0
LeftBut None me maps remotes cache = MappedOrCached me maps remotes cache
LeftBut (Some old) me maps remotes cache = MappedOrCachedBut old me maps remotes cache

abbrev pub Left : ℕ → (Name → Option Mapping) → (Name → Option Remote) → CacheStep → Type 0
Left me maps remotes k = LeftBut k.evicted me maps remotes k.cache

push_left : (name : Name) (size : ℕ) (me : ℕ) (maps : Name → Option Mapping) (remotes : Name → Option Remote) (cache : List Cached) → (name.home == me) ≡ false → ((z : ℕ) → IsCached name z cache → ⊥)
    → MappedOrCached me maps remotes cache → Left me (at_name maps name None) remotes (push_out (record { name = name; size = size }) cache)
push_left name size me maps remotes [] away fresh h = but_unmapped name me maps remotes [] h
push_left name size me maps remotes (old ∷ cache) away fresh h =
    let all = put_in name size me maps remotes cache (λ q. name_eq old.name q ≡ false) away (λ z c. fresh z (inr c)) (λ q z c. h.cached q z (inr c)) (λ q z c. h.others q z (inr c)) h.once.1
    (λ q r other w n. let c = h.held q r w n in (c.0, behind q c.0 other c.1)) in
    record { cached = all.0; held = λ q r other w n. all.3 q r other w n; others = all.1; once = all.2 }
  where
    behind : (q : Name) (z : ℕ) → name_eq old.name q ≡ false → IsCached q z (old ∷ cache) → IsCached q z cache
    behind q z other (inl w) = absurd (other_name old.name q other w.0)
    behind q z other (inr w) = w

pub kept_left : (name : Name) (size capacity : ℕ) (me : ℕ) (maps : Name → Option Mapping) (remotes : Name → Option Remote) (cache : List Cached) → (name.home == me) ≡ false → ((z : ℕ) → IsCached name z cache → ⊥)
    → MappedOrCached me maps remotes cache → Left me (at_name maps name None) remotes (cache_with capacity (record { name = name; size = size }) cache)
unfolding cache_with
kept_left name size capacity me maps remotes cache away fresh h =
    cond_both (capacity == 0) _ _ (Left me (at_name maps name None) remotes) (λ w. but_unmapped name me maps remotes cache h)
    (λ w. cond_both (nat_lt (length cache) capacity) _ _ (Left me (at_name maps name None) remotes)
    (λ v. let all = put_in name size me maps remotes cache (λ q. Unit {0}) away fresh h.cached h.others h.once (λ q r p w n. h.held q r w n) in
    record { cached = all.0; held = λ q r w n. all.3 q r tt w n; others = all.1; once = all.2 })
    (λ v. push_left name size me maps remotes cache away fresh h))

-- Of a node, after each of its deeds.
abbrev pub IsMappedOrCached : Node → Type 0
IsMappedOrCached n = MappedOrCached n.me n.maps n.remotes n.cache

mapped_or_cached_copies : (n : Node) (cause : Cause) (o : Outcome) → Copies n cause o → IsMappedOrCached n → IsMappedOrCached o.node
mapped_or_cached_copies n cause o (side_opens c write name r is e f v x) h = mapped_some name r _ n.me n.maps n.remotes n.cache f h
mapped_or_cached_copies n cause o (side_waits c write name r is e f v x) h = mapped_some name r _ n.me n.maps n.remotes n.cache f h
mapped_or_cached_copies n cause o (side_ends c name w ends lowers r is e f) h = mapped_some name r _ n.me n.maps n.remotes n.cache f h
mapped_or_cached_copies n cause o (side_flushes name r other e closed) h = mapped_some name r _ n.me n.maps n.remotes n.cache e h
mapped_or_cached_copies n cause o (grant_comes from name version g r e t) h = mapped_some name r _ n.me n.maps n.remotes n.cache e h
mapped_or_cached_copies n cause o (side_called from k name r s is e) h = mapped_some name r _ n.me n.maps n.remotes n.cache e h
mapped_or_cached_copies n cause o _ h = h

mapped_or_cached_lives : (n : Node) (cause : Cause) (o : Outcome) → Lives n cause o → ((name : Name) → is_mine n name ≡ true → n.remotes name ≡ None) → FreshFits n.activity n.cache → IsMappedOrCached n → IsMappedOrCached o.node
mapped_or_cached_lives n cause o (maps_more name m e few mine other) own fresh h = mapped_more name m _ n.me n.maps n.remotes n.cache e h
mapped_or_cached_lives n cause o (maps_own name e mine live) own fresh h = mapped_own name _ n.me n.maps n.remotes n.cache mine h
mapped_or_cached_lives n cause o (maps_cached name size e other c) own fresh h = mapped_cached name _ n.me n.maps n.remotes n.cache h
mapped_or_cached_lives n cause o (map_comes from name purged size e) own fresh h = mapped_new name _ _ n.me n.maps n.remotes n.cache (subst (λ a. FreshFits a n.cache) e fresh) h
mapped_or_cached_lives n cause o (unmaps_one name m e some more closed) own fresh h = mapped_more name m _ n.me n.maps n.remotes n.cache e h
mapped_or_cached_lives n cause o (unmaps_own name m e one mine closed) own fresh h = but_none name n.me _ n.remotes n.cache (own name mine) (but_unmapped name n.me n.maps n.remotes n.cache h)
mapped_or_cached_lives n cause o (unmaps_doomed name m e one other doomed closed) own fresh h = but_forgotten name n.me _ n.remotes n.cache (but_unmapped name n.me n.maps n.remotes n.cache h)
mapped_or_cached_lives n cause o (unmaps_keeping name m e one other sound closed kept) own fresh h =
    subst (λ x. LeftBut x n.me o.node.maps n.remotes o.node.cache) kept (kept_left name m.size n.capacity n.me n.maps n.remotes n.cache other (λ z c. let w = h.cached name z c in cc) h)
mapped_or_cached_lives n cause o (unmaps_evicting name m old e one other sound closed kept) own fresh h =
    but_forgotten old n.me _ n.remotes _
    (subst (λ x. LeftBut x n.me o.node.maps n.remotes o.node.cache) kept (kept_left name m.size n.capacity n.me n.maps n.remotes n.cache other (λ z c. let w = h.cached name z c in cc) h))
mapped_or_cached_lives n cause o (dooms from name m e) own fresh h = mapped_more name m _ n.me n.maps n.remotes n.cache e h
mapped_or_cached_lives n cause o (drops from name size e c) own fresh h = but_forgotten name n.me n.maps n.remotes _ (but_dropped name n.me n.maps n.remotes n.cache h)
mapped_or_cached_lives n cause o _ own fresh h = h

mapped_or_cached_rounds : (n : Node) (cause : Cause) (o : Outcome) → Rounds n cause o → IsMappedOrCached n → IsMappedOrCached o.node
mapped_or_cached_rounds n cause o (comes_away part other fits) h = h
mapped_or_cached_rounds n cause o _ h = h

mapped_or_cached_notes : (n : Node) (c : Call) (w : What) (m : Node) → Notes n c w m → IsMappedOrCached n → IsMappedOrCached m
mapped_or_cached_notes n c w m (flushes_own name mine closed) h = h
mapped_or_cached_notes n c w m _ h = h

pub mapped_or_cached_deed : (n : Node) (cause : Cause) (o : Outcome) → Deed n cause o → ((name : Name) → is_mine n name ≡ true → n.remotes name ≡ None) → FreshFits n.activity n.cache → IsMappedOrCached n → IsMappedOrCached o.node
mapped_or_cached_deed n cause o (copies d) own fresh h = mapped_or_cached_copies n cause o d h
mapped_or_cached_deed n cause o (lives d) own fresh h = mapped_or_cached_lives n cause o d own fresh h
mapped_or_cached_deed n cause o (rounds d) own fresh h = mapped_or_cached_rounds n cause o d h
mapped_or_cached_deed n cause o (notes d) own fresh h = mapped_or_cached_notes n _ _ _ d h
mapped_or_cached_deed n cause o _ own fresh h = h
