-- The sizes under which a node maps regions, and keeps them in its cache, are those of the regions.
use Rattle.std.proofs.Common.{◌≡◌, ◌⊎◌, inl, inr, ℕ, ◌==◌, nat_lt, None, Some, Option, List, [], ◌∷◌, length, if◌then◌else◌, refl, subst}
use Rattle.std.proofs.lemmas.Bool.{cond_both}
use Rattle.crl_model.specs.declared.name.Name.{Name}
use Rattle.crl_model.specs.declared.stage.Stage.{Stage}
use Rattle.crl_model.specs.declared.stage.Stage.TheVariants as stage
use Rattle.crl_model.specs.declared.call.Call.{Call}
use Rattle.crl_model.specs.declared.entry.What.{What}
use Rattle.crl_model.specs.Names.{at_name}
use Rattle.crl_protocol.specs.Home.{Home}
use Rattle.crl_protocol.specs.Lifetimes.{Mapping, Cached, CacheStep, cache_with, push_out}
use Rattle.crl_protocol.specs.Node.{Node, Outcome, home_of, lifetime_of}
use Rattle.crl_protocol.specs.Calls.{size_of}
use Rattle.crl_deeds.specs.NodeFacts.{IsCached, LiveFits}
use Rattle.crl_deeds.specs.Deeds.{Cause, Calls, Hears, Copies, Lives, Rounds, Notes, Deed, copies, lives, rounds, notes, home_opens, maps_more, maps_own, maps_cached, map_comes, unmaps_one, unmaps_own, unmaps_doomed, unmaps_keeping, unmaps_evicting, dooms, drops, comes_away, flushes_own}
use Rattle.crl_deeds.proofs.Laws.{by_name, is_cached, kept_dropped, kept_more}
use Rattle.crl_regions.specs.MailFits.{Tables, HasSize, FitsTables}

pub record SizesFit (tables : Tables) (n : Node) : Type 0 where
  pub mapped : (q : Name) (m : Mapping) → n.maps q ≡ Some m → HasSize m.size (tables q)
  pub cached : (q : Name) (size : ℕ) → IsCached q size n.cache → HasSize size (tables q)

-- what is in the cache was put in, or was there
put_or_there : (q : Name) (size : ℕ) (new : Cached) (cache : List Cached) → IsCached q size (push_out new cache).cache → ((new.name ≡ q) × (new.size ≡ size)) ⊎ IsCached q size cache
put_or_there q size new [] c = absurd c
put_or_there q size new (old ∷ cache) c = behind (kept_more q size new cache c)
  where
    behind : ((new.name ≡ q) × (new.size ≡ size)) ⊎ IsCached q size cache → ((new.name ≡ q) × (new.size ≡ size)) ⊎ IsCached q size (old ∷ cache)
    behind (inl w) = inl w
    behind (inr w) = inr (inr w)

cache_from : (q : Name) (size capacity : ℕ) (new : Cached) (cache : List Cached) → IsCached q size (cache_with capacity new cache).cache → ((new.name ≡ q) × (new.size ≡ size)) ⊎ IsCached q size cache
unfolding cache_with
cache_from q size capacity new cache =
    cond_both (capacity == 0) _ _ (λ (s : CacheStep). IsCached q size s.cache → ((new.name ≡ q) × (new.size ≡ size)) ⊎ IsCached q size cache) (λ w c. inr c)
    (λ w. cond_both (nat_lt (length cache) capacity) _ _ (λ (s : CacheStep). IsCached q size s.cache → ((new.name ≡ q) × (new.size ≡ size)) ⊎ IsCached q size cache) (λ v c. kept_more q size new cache c) (λ v c. put_or_there q size new cache c))

mapped_with : (tables : Tables) (n : Node) (name : Name) (o : Option Mapping) → SizesFit tables n → ((m : Mapping) → o ≡ Some m → HasSize m.size (tables name)) → (q : Name) (m : Mapping) → at_name n.maps name o q ≡ Some m → HasSize m.size (tables q)
mapped_with tables n name o h new = by_name name (λ b p. (m : Mapping) → (if b then o else n.maps p) ≡ Some m → HasSize m.size (tables p)) new (λ p other m e. h.mapped p m e)

-- one mapping, of this size
only_one : (tables : Tables) (name : Name) (k : Mapping) → HasSize k.size (tables name) → (m : Mapping) → Some k ≡ Some m → HasSize m.size (tables name)
only_one tables name k h m e = let same : k ≡ m = cc in subst (λ (x : Mapping). HasSize x.size (tables name)) same h

none_left : (tables : Tables) (name : Name) (m : Mapping) → ◌≡◌ {A = Option Mapping} None (Some m) → HasSize m.size (tables name)
none_left tables name m e = cc

live_size : (s : Stage) (o t : Option Home) → s ≡ stage.Live → LiveFits s o → ((h : Home) → o ≡ Some h → t ≡ Some h) → HasSize (size_of o) t
live_size s None t e f own = absurd (subst (λ x. LiveFits x None) e f)
live_size s (Some h) t e f own = (h, own h refl, refl)

cached_after : (tables : Tables) (n : Node) (name : Name) (m : Mapping) → SizesFit tables n → n.maps name ≡ Some m → (q : Name) (size : ℕ) → IsCached q size (cache_with n.capacity (record { name = name; size = m.size }) n.cache).cache → HasSize size (tables q)
cached_after tables n name m h e q size c = elim (cache_from q size n.capacity (record { name = name; size = m.size }) n.cache c) [
  | inl new ↦ subst (λ x. HasSize x (tables q)) new.1 (subst (λ p. HasSize m.size (tables p)) new.0 (h.mapped name m e))
  | inr old ↦ h.cached q size old
]

-- what came tells the size that the table has
abbrev pub CauseTells : Tables → ℕ → Cause → Type 0
CauseTells tables i (Calls c) = Unit {0}
CauseTells tables i (Hears from k) = FitsTables tables from i k

-- The node's own tables are those of the world, and a live region has one.
pub record OwnTables (tables : Tables) (n : Node) : Type 0 where
  pub there : (name : Name) (h : Home) → home_of n name ≡ Some h → tables name ≡ Some h
  pub live : (name : Name) → LiveFits (lifetime_of n name).stage (home_of n name)

sizes_lives : (tables : Tables) (i : ℕ) (n : Node) (cause : Cause) (o : Outcome) → Lives n cause o → CauseTells tables i cause → OwnTables tables n → SizesFit tables n → SizesFit tables o.node
sizes_lives tables i n cause o (maps_more name m e few mine other) t own h = record { mapped = mapped_with tables n name _ h (only_one tables name _ (h.mapped name m e)); cached = h.cached }
sizes_lives tables i n cause o (maps_own name e mine live) t own h =
    record { mapped = mapped_with tables n name _ h (only_one tables name _ (live_size _ (home_of n name) (tables name) live (own.live name) (own.there name))); cached = h.cached }
sizes_lives tables i n cause o (maps_cached name size e other c) t own h =
    record { mapped = mapped_with tables n name _ h (only_one tables name _ (h.cached name size (is_cached name n.cache size c))); cached = λ q z k. h.cached q z (kept_dropped name q z n.cache k) }
sizes_lives tables i n cause o (map_comes from name purged size e) t own h = record { mapped = mapped_with tables n name _ h (only_one tables name _ t); cached = h.cached }
sizes_lives tables i n cause o (unmaps_one name m e some more closed) t own h = record { mapped = mapped_with tables n name _ h (only_one tables name _ (h.mapped name m e)); cached = h.cached }
sizes_lives tables i n cause o (unmaps_own name m e one mine closed) t own h = record { mapped = mapped_with tables n name None h (none_left tables name); cached = h.cached }
sizes_lives tables i n cause o (unmaps_doomed name m e one other doomed closed) t own h = record { mapped = mapped_with tables n name None h (none_left tables name); cached = h.cached }
sizes_lives tables i n cause o (unmaps_keeping name m e one other sound closed kept) t own h = record { mapped = mapped_with tables n name None h (none_left tables name); cached = cached_after tables n name m h e }
sizes_lives tables i n cause o (unmaps_evicting name m old e one other sound closed kept) t own h = record { mapped = mapped_with tables n name None h (none_left tables name); cached = cached_after tables n name m h e }
sizes_lives tables i n cause o (dooms from name m e) t own h = record { mapped = mapped_with tables n name _ h (only_one tables name _ (h.mapped name m e)); cached = h.cached }
sizes_lives tables i n cause o (drops from name size e c) t own h = record { mapped = h.mapped; cached = λ q z k. h.cached q z (kept_dropped name q z n.cache k) }
sizes_lives tables i n cause o _ t own h = record { mapped = h.mapped; cached = h.cached }

sizes_copies : (tables : Tables) (n : Node) (cause : Cause) (o : Outcome) → Copies n cause o → SizesFit tables n → SizesFit tables o.node
sizes_copies tables n cause o (home_opens c write name x is e v y) h = record { mapped = h.mapped; cached = h.cached }
sizes_copies tables n cause o _ h = record { mapped = h.mapped; cached = h.cached }

sizes_rounds : (tables : Tables) (n : Node) (cause : Cause) (o : Outcome) → Rounds n cause o → SizesFit tables n → SizesFit tables o.node
sizes_rounds tables n cause o (comes_away part other fits) h = record { mapped = h.mapped; cached = h.cached }
sizes_rounds tables n cause o _ h = record { mapped = h.mapped; cached = h.cached }

sizes_notes : (tables : Tables) (n : Node) (c : Call) (w : What) (m : Node) → Notes n c w m → SizesFit tables n → SizesFit tables m
sizes_notes tables n c w m (flushes_own name mine closed) h = record { mapped = h.mapped; cached = h.cached }
sizes_notes tables n c w m _ h = record { mapped = h.mapped; cached = h.cached }

pub sizes_deed : (tables : Tables) (i : ℕ) (n : Node) (cause : Cause) (o : Outcome) → Deed n cause o → CauseTells tables i cause → OwnTables tables n → SizesFit tables n → SizesFit tables o.node
sizes_deed tables i n cause o (copies d) t own h = sizes_copies tables n cause o d h
sizes_deed tables i n cause o (lives d) t own h = sizes_lives tables i n cause o d t own h
sizes_deed tables i n cause o (rounds d) t own h = sizes_rounds tables n cause o d h
sizes_deed tables i n cause o (notes d) t own h = sizes_notes tables n _ _ _ d h
sizes_deed tables i n cause o _ t own h = h
