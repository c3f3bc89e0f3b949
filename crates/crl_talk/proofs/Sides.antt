-- A node has a side of each region of another node that it maps or has in its cache.
use Rattle.std.proofs.Common.{◌≡◌, ◌⊎◌, inl, inr, ℕ, ◌==◌, nat_lt, Bool, true, false, None, Some, Option, List, [], ◌∷◌, ◌++◌, length, if◌then◌else◌, refl, ap, sym, subst}
use Rattle.std.proofs.lemmas.Bool.{cond_both}
use Rattle.crl_model.specs.declared.name.Name.{Name}
use Rattle.crl_model.specs.declared.call.Call.{Call}
use Rattle.crl_model.specs.declared.entry.What.{What}
use Rattle.crl_model.specs.Names.{name_eq, at_name}
use Rattle.crl_protocol.specs.Remote.{Remote}
use Rattle.crl_protocol.specs.Lifetimes.{Mapping, Cached, CacheStep, push_out, cache_with, cache_without}
use Rattle.crl_protocol.specs.Node.{Node, Outcome}
use Rattle.crl_deeds.specs.Deeds.{Cause, FreeIf, Copies, Lives, Rounds, Notes, Deed}
use Rattle.crl_deeds.specs.NodeFacts.{IsCached, FreshFits, Leaves, Fits}
use Rattle.crl_deeds.specs.Turns.{Came, Kept}
use Rattle.crl_deeds.proofs.Laws.{by_name, same_name, other_name, kept_dropped, kept_more, is_cached}
use Rattle.crl_deeds.specs.Deeds as deed

-- no name stands in the cache twice
abbrev Once : List Cached → Type 0
Once [] = Unit {0}
Once (k ∷ ks) = ((size : ℕ) → IsCached k.name size ks → ⊥) × Once ks

abbrev IsSided : (Name → Option Remote) → Name → Type 0
IsSided remotes q = (r : Remote) × (remotes q ≡ Some r)

pub record SidesFit (me : ℕ) (maps : Name → Option Mapping) (remotes : Name → Option Remote) (cache : List Cached) : Type 0 where
  pub mapped : (q : Name) (m : Mapping) → (q.home == me) ≡ false → maps q ≡ Some m → IsSided remotes q
  pub away : (q : Name) (size : ℕ) → IsCached q size cache → (q.home == me) ≡ false
  pub unmapped : (q : Name) (size : ℕ) → IsCached q size cache → maps q ≡ None
  pub cached : (q : Name) (size : ℕ) → IsCached q size cache → IsSided remotes q
  pub once : Once cache

-- a side that changes
side_some : (name : Name) (s : Remote) (me : ℕ) (maps : Name → Option Mapping) (remotes : Name → Option Remote) (cache : List Cached) → SidesFit me maps remotes cache → SidesFit me maps (at_name remotes name (Some s)) cache
side_some name s me maps remotes cache h = record { mapped = λ q m other e. put q (h.mapped q m other e); away = h.away; unmapped = h.unmapped; cached = λ q z c. put q (h.cached q z c); once = h.once }
  where
    put : (q : Name) → IsSided remotes q → IsSided (at_name remotes name (Some s)) q
    put = by_name name (λ b q. IsSided remotes q → (r : Remote) × ((if b then Some s else remotes q) ≡ Some r)) (λ x. (s, refl)) (λ q other x. x)

-- a side that goes, of a name that is neither mapped nor cached then
side_gone : (name q : Name) (remotes : Name → Option Remote) → (name ≡ q → ⊥) → IsSided remotes q → IsSided (at_name remotes name None) q
side_gone name q remotes apart x = go (name_eq name q) refl
  where
    go : (b : Bool) → name_eq name q ≡ b → (r : Remote) × ((if b then None else remotes q) ≡ Some r)
    go true e = absurd (apart (same_name name q e))
    go false e = x

-- Mappings.
map_again : (name : Name) (k : Mapping) (me : ℕ) (maps : Name → Option Mapping) (remotes : Name → Option Remote) (cache : List Cached) → ((name.home == me) ≡ false → IsSided remotes name) → ((size : ℕ) → IsCached name size cache → ⊥)
    → SidesFit me maps remotes cache → SidesFit me (at_name maps name (Some k)) remotes cache
map_again name k me maps remotes cache there fresh h = record {
  mapped = by_name name (λ b q. (m : Mapping) → (q.home == me) ≡ false → (if b then Some k else maps q) ≡ Some m → IsSided remotes q) (λ m other e. there other) (λ q apart m other e. h.mapped q m other e);
  away = h.away;
  unmapped = by_name name (λ b q. (size : ℕ) → IsCached q size cache → (if b then Some k else maps q) ≡ None) (λ size c. absurd (fresh size c)) (λ q apart size c. h.unmapped q size c);
  cached = h.cached;
  once = h.once;
}

map_ends : (name : Name) (me : ℕ) (maps : Name → Option Mapping) (remotes : Name → Option Remote) (cache : List Cached) → SidesFit me maps remotes cache → SidesFit me (at_name maps name None) remotes cache
map_ends name me maps remotes cache h = record {
  mapped = by_name name (λ b q. (m : Mapping) → (q.home == me) ≡ false → (if b then None else maps q) ≡ Some m → IsSided remotes q) (λ m other e. absurd (cc)) (λ q apart m other e. h.mapped q m other e);
  away = h.away;
  unmapped = by_name name (λ b q. (size : ℕ) → IsCached q size cache → (if b then None else maps q) ≡ None) (λ size c. refl) (λ q apart size c. h.unmapped q size c);
  cached = h.cached;
  once = h.once;
}

forget : (name : Name) (me : ℕ) (maps : Name → Option Mapping) (remotes : Name → Option Remote) (cache : List Cached) → maps name ≡ None → ((size : ℕ) → IsCached name size cache → ⊥) → SidesFit me maps remotes cache
    → SidesFit me maps (at_name remotes name None) cache
forget name me maps remotes cache none fresh h = record {
  mapped = λ q m other e. side_gone name q remotes (λ s. (let w = ap maps s in cc)) (h.mapped q m other e);
  away = h.away;
  unmapped = h.unmapped;
  cached = λ q z c. side_gone name q remotes (λ s. fresh z (subst (λ x. IsCached x z cache) (sym s) c)) (h.cached q z c);
  once = h.once;
}

-- The cache.
gone_dropped : (name : Name) (cache : List Cached) (size : ℕ) → Once cache → IsCached name size (cache_without name cache) → ⊥
gone_dropped name [] size o c = c
gone_dropped name (k ∷ ks) size o c = either (name_eq k.name name) refl (λ z w. gone_dropped name ks z o.1 w) c
  where
    either : (b : Bool) → name_eq k.name name ≡ b → ((z : ℕ) → IsCached name z (cache_without name ks) → ⊥) → IsCached name size (if b then ks else k ∷ cache_without name ks) → ⊥
    either true e rest c = o.0 size (subst (λ x. IsCached x size ks) (sym (same_name k.name name e)) c)
    either false e rest (inl w) = other_name k.name name e w.0
    either false e rest (inr w) = rest size w

once_dropped : (name : Name) (cache : List Cached) → Once cache → Once (cache_without name cache)
once_dropped name [] o = tt
once_dropped name (k ∷ ks) o = cond_both (name_eq k.name name) ks (k ∷ cache_without name ks) Once (λ w. o.1) (λ w. ((λ size c. o.0 size (kept_dropped name k.name size ks c)), once_dropped name ks o.1))

drop_name : (name : Name) (me : ℕ) (maps : Name → Option Mapping) (remotes : Name → Option Remote) (cache : List Cached) → SidesFit me maps remotes cache → SidesFit me maps remotes (cache_without name cache)
drop_name name me maps remotes cache h = record {
  mapped = h.mapped;
  away = λ q z c. h.away q z (kept_dropped name q z cache c);
  unmapped = λ q z c. h.unmapped q z (kept_dropped name q z cache c);
  cached = λ q z c. h.cached q z (kept_dropped name q z cache c);
  once = once_dropped name cache h.once;
}

once_more : (new : Cached) (cache : List Cached) → ((size : ℕ) → IsCached new.name size cache → ⊥) → Once cache → Once (cache ++ new ∷ [])
once_more new [] fresh o = ((λ size c. c), tt)
once_more new (k ∷ ks) fresh o = ((λ size c. either size (kept_more k.name size new ks c)), once_more new ks (λ size c. fresh size (inr c)) o.1)
  where
    either : (size : ℕ) → ((new.name ≡ k.name) × (new.size ≡ size)) ⊎ IsCached k.name size ks → ⊥
    either size (inl w) = fresh k.size (inl (sym w.0, refl))
    either size (inr w) = o.0 size w

put_name : (name : Name) (size : ℕ) (me : ℕ) (maps : Name → Option Mapping) (remotes : Name → Option Remote) (cache : List Cached) → (name.home == me) ≡ false → maps name ≡ None → IsSided remotes name → ((z : ℕ) → IsCached name z cache → ⊥)
    → SidesFit me maps remotes cache → SidesFit me maps remotes (cache ++ record { name = name; size = size } ∷ [])
put_name name size me maps remotes cache other none there fresh h = record {
  mapped = h.mapped;
  away = λ q z c. of_two (λ x. (x.home == me) ≡ false) q z other (h.away q) (kept_more q z new cache c);
  unmapped = λ q z c. of_two (λ x. maps x ≡ None) q z none (h.unmapped q) (kept_more q z new cache c);
  cached = λ q z c. of_two (IsSided remotes) q z there (h.cached q) (kept_more q z new cache c);
  once = once_more new cache fresh h.once;
}
  where
    new : Cached
    new = record { name = name; size = size }

    of_two : (P : Name → Type 0) (q : Name) (z : ℕ) → P name → ((z : ℕ) → IsCached q z cache → P q) → ((name ≡ q) × (size ≡ z)) ⊎ IsCached q z cache → P q
    of_two P q z here there (inl w) = subst P w.0 here
    of_two P q z here there (inr w) = there z w

abbrev without_side : Option Name → (Name → Option Remote) → Name → Option Remote
without_side None remotes = remotes
without_side (Some old) remotes = at_name remotes old None

abbrev Left : ℕ → (Name → Option Mapping) → (Name → Option Remote) → CacheStep → Type 0
Left me maps remotes k = SidesFit me maps (without_side k.evicted remotes) k.cache

tail_fits : (me : ℕ) (maps : Name → Option Mapping) (remotes : Name → Option Remote) (k : Cached) (cache : List Cached) → SidesFit me maps remotes (k ∷ cache) → SidesFit me maps remotes cache
tail_fits me maps remotes k cache h = record { mapped = h.mapped; away = λ q z c. h.away q z (inr c); unmapped = λ q z c. h.unmapped q z (inr c); cached = λ q z c. h.cached q z (inr c); once = h.once.1 }

push_left : (name : Name) (size : ℕ) (me : ℕ) (maps : Name → Option Mapping) (remotes : Name → Option Remote) (cache : List Cached) → (name.home == me) ≡ false → maps name ≡ None → IsSided remotes name → ((z : ℕ) → IsCached name z cache → ⊥)
    → SidesFit me maps remotes cache → Left me maps remotes (push_out (record { name = name; size = size }) cache)
push_left name size me maps remotes [] other none there fresh h = forget name me maps remotes [] none (λ z c. c) h
push_left name size me maps remotes (old ∷ cache) other none there fresh h =
    put_name name size me maps (at_name remotes old.name None) cache other none
    (side_gone old.name name remotes (λ s. fresh old.size (inl (s, refl))) there) (λ z c. fresh z (inr c))
    (forget old.name me maps remotes cache (h.unmapped old.name old.size (inl (refl, refl))) h.once.0 (tail_fits me maps remotes old cache h))

kept_left : (name : Name) (size capacity : ℕ) (me : ℕ) (maps : Name → Option Mapping) (remotes : Name → Option Remote) (cache : List Cached) → (name.home == me) ≡ false → maps name ≡ None → IsSided remotes name → ((z : ℕ) → IsCached name z cache → ⊥)
    → SidesFit me maps remotes cache → Left me maps remotes (cache_with capacity (record { name = name; size = size }) cache)
unfolding cache_with
kept_left name size capacity me maps remotes cache other none there fresh h =
    cond_both (capacity == 0) _ _ (Left me maps remotes) (λ w. forget name me maps remotes cache none fresh h)
    (λ w. cond_both (nat_lt (length cache) capacity) _ _ (Left me maps remotes) (λ v. put_name name size me maps remotes cache other none there fresh h) (λ v. push_left name size me maps remotes cache other none there fresh h))

-- Of a node, after each of its deeds.
abbrev pub Sided : Node → Type 0
Sided n = SidesFit n.me n.maps n.remotes n.cache

not_both : (n : Node) (name : Name) (m : Mapping) → n.maps name ≡ Some m → Sided n → (z : ℕ) → IsCached name z n.cache → ⊥
not_both n name m e h z c = let w = h.unmapped name z c in cc

sided_copies : (n : Node) (cause : Cause) (o : Outcome) → Copies n cause o → Sided n → Sided o.node
sided_copies n cause o (deed.side_opens c write name r is e f v x) h = side_some name _ n.me n.maps n.remotes n.cache h
sided_copies n cause o (deed.side_waits c write name r is e f v x) h = side_some name _ n.me n.maps n.remotes n.cache h
sided_copies n cause o (deed.side_ends c name w ends lowers r is e f) h = side_some name _ n.me n.maps n.remotes n.cache h
sided_copies n cause o (deed.side_flushes name r other e can) h = side_some name _ n.me n.maps n.remotes n.cache h
sided_copies n cause o (deed.grant_comes from name version g r e t) h = side_some name _ n.me n.maps n.remotes n.cache h
sided_copies n cause o (deed.side_called from k name r s is e) h = side_some name _ n.me n.maps n.remotes n.cache h
sided_copies n cause o _ h = h

unmapped_here : (name : Name) (maps : Name → Option Mapping) → at_name maps name None name ≡ None
unmapped_here name maps = cond_both (name_eq name name) _ _ (λ x. x ≡ None) (λ w. refl) (λ w. absurd (other_name name name w refl))

sided_lives : (n : Node) (cause : Cause) (o : Outcome) → Lives n cause o → FreshFits n.activity n.cache → Sided n → Sided o.node
sided_lives n cause o (deed.maps_more name m e few mine other) fresh h = map_again name _ n.me n.maps n.remotes n.cache (λ away. h.mapped name m away e) (not_both n name m e h) h
sided_lives n cause o (deed.maps_own name e mine live) fresh h = map_again name _ n.me n.maps n.remotes n.cache (λ away. absurd (cc)) (λ z c. (let w = h.away name z c in cc)) h
sided_lives n cause o (deed.maps_cached name size e other c) fresh h =
    map_again name _ n.me n.maps n.remotes (cache_without name n.cache) (λ away. h.cached name size (is_cached name n.cache size c)) (λ z k. gone_dropped name n.cache z h.once k) (drop_name name n.me n.maps n.remotes n.cache h)
sided_lives n cause o (deed.map_comes from name purged size e) fresh h =
    map_again name _ n.me n.maps (at_name n.remotes name _) n.cache (λ away. sided_here) (subst (λ a. FreshFits a n.cache) e fresh) (side_some name _ n.me n.maps n.remotes n.cache h)
  where
    sided_here : IsSided o.node.remotes name
    sided_here = cond_both (name_eq name name) _ _ (λ x. (r : Remote) × (x ≡ Some r)) (λ w. (_, refl)) (λ w. absurd (other_name name name w refl))
sided_lives n cause o (deed.unmaps_one name m e some more closed) fresh h = map_again name _ n.me n.maps n.remotes n.cache (λ away. h.mapped name m away e) (not_both n name m e h) h
sided_lives n cause o (deed.unmaps_own name m e one mine closed) fresh h = map_ends name n.me n.maps n.remotes n.cache h
sided_lives n cause o (deed.unmaps_doomed name m e one other doomed closed) fresh h =
    forget name n.me (at_name n.maps name None) n.remotes n.cache (unmapped_here name n.maps) (not_both n name m e h) (map_ends name n.me n.maps n.remotes n.cache h)
sided_lives n cause o (deed.unmaps_keeping name m e one other sound closed kept) fresh h =
    subst (λ x. SidesFit n.me (at_name n.maps name None) (without_side x n.remotes) o.node.cache) kept
    (kept_left name m.size n.capacity n.me (at_name n.maps name None) n.remotes n.cache other (unmapped_here name n.maps) (h.mapped name m other e) (not_both n name m e h) (map_ends name n.me n.maps n.remotes n.cache h))
sided_lives n cause o (deed.unmaps_evicting name m old e one other sound closed kept) fresh h =
    subst (λ x. SidesFit n.me (at_name n.maps name None) (without_side x n.remotes) o.node.cache) kept
    (kept_left name m.size n.capacity n.me (at_name n.maps name None) n.remotes n.cache other (unmapped_here name n.maps) (h.mapped name m other e) (not_both n name m e h) (map_ends name n.me n.maps n.remotes n.cache h))
sided_lives n cause o (deed.dooms from name m e) fresh h = map_again name _ n.me n.maps n.remotes n.cache (λ away. h.mapped name m away e) (not_both n name m e h) h
sided_lives n cause o (deed.drops from name size e c) fresh h = forget name n.me n.maps n.remotes (cache_without name n.cache) e (λ z k. gone_dropped name n.cache z h.once k) (drop_name name n.me n.maps n.remotes n.cache h)
sided_lives n cause o _ fresh h = h

sided_rounds : (n : Node) (cause : Cause) (o : Outcome) → Rounds n cause o → Sided n → Sided o.node
sided_rounds n cause o (deed.comes_away part other fits) h = h
sided_rounds n cause o _ h = h

sided_notes : (n : Node) (c : Call) (w : What) (m : Node) → Notes n c w m → Sided n → Sided m
sided_notes n c w m (deed.flushes_own name mine can) h = h
sided_notes n c w m _ h = h

sided_deed : (j : ℕ) (n : Node) (cause : Cause) (o : Outcome) → Deed n cause o → Fits j n → Came Leaves n.me cause → FreeIf cause n → Sided n → Sided o.node
sided_deed j n cause o (deed.copies d) f away free h = sided_copies n cause o d h
sided_deed j n cause o (deed.lives d) f away free h = sided_lives n cause o d f.fresh h
sided_deed j n cause o (deed.rounds d) f away free h = sided_rounds n cause o d h
sided_deed j n cause o (deed.notes d) f away free h = sided_notes n _ _ _ d h
sided_deed j n cause o _ f away free h = h

pub sided_kept : Kept Sided
sided_kept = record { deed = sided_deed; boxes = λ n inbox outbox parcels records notes posted h. h; answered = λ n answer e h. h }

pub sided_start : (me : ℕ) → SidesFit me (λ q. None) (λ q. None) []
sided_start me = record { mapped = λ q m other e. absurd (cc); away = λ q z c. absurd c; unmapped = λ q z c. absurd c; cached = λ q z c. absurd c; once = tt }
