-- What holds of a node that is free holds after its call.
use Rattle.std.proofs.Common.{◌≡◌, ℕ, ◌+◌, ◌-◌, ◌==◌, nat_lt, Bool, true, false, None, Some, Option, List, [], ◌∷◌, length, refl, sym, ◌∙◌, subst}
use Rattle.std.proofs.lemmas.Bool.{cond_both}
use Rattle.std.proofs.Math.Logic.{◌⊎◌, inl, inr}
use Rattle.crl_model.specs.declared.name.Name.{Name}
use Rattle.crl_model.specs.declared.stage.Stage.{Stage}
use Rattle.crl_model.specs.declared.stage.Stage.TheVariants as stage
use Rattle.crl_model.specs.declared.call.Call.{Call}
use Rattle.crl_model.specs.declared.call.Call.TheVariants as call
use Rattle.crl_model.specs.declared.call.Refusal.{Refusal}
use Rattle.crl_model.specs.declared.call.Refusal.TheVariants.{NotMapped}
use Rattle.crl_model.specs.declared.message.Kind.TheVariants as kind
use Rattle.crl_protocol.specs.Home.{Home}
use Rattle.crl_protocol.specs.Remote.{Remote, is_closed}
use Rattle.crl_protocol.specs.Lifetimes.{Mapping, new_mapping, Cached, CacheStep, push_out, cache_with, cached_size, cache_without, Lifetime, lifetime_begins_delete, members}
use Rattle.crl_protocol.specs.Sections.{OpenSection, section_of, section_at}
use Rattle.crl_protocol.specs.Node.{Node, ForMap, ForDelete, Free, Waiting, COUNT_LIMIT, serials_used, is_mine, home_of, lifetime_of, with_mapping, map_count, message_to}
use Rattle.crl_protocol.specs.Verdict.{else_if, refuse_if, by_stage, uses_serial, refuses_call}
use Rattle.crl_protocol.specs.Calls.{deletes_own, deletes, size_of, maps_in, maps_cached, maps_over, forgets_evicted, caches, unmaps_over}
use Rattle.crl_deeds.specs.NodeFacts.{Seen, seen, LiveFits, MappedHere, MappedThere, OwnFits, RecordFits, WaitFits, IsCached, SizeIs, Fits, free}
use Rattle.crl_deeds.proofs.Fits.Fields.{fits_turn, fits_mapping, fits_lifetime, fits_cache, fits_used}
use Rattle.crl_deeds.proofs.Fits.Parts.{Good, good_if, good_only, free_apart, good_waits, other_way, purges_leave, here_if, there_if, good_forgets, is_cached, not_cached, kept_dropped, kept_more}

-- A verdict that refuses nothing.
pub none_of : (a b : Option Refusal) → else_if a b ≡ None → (a ≡ None) × (b ≡ None)
none_of None b e = (refl, e)
none_of (Some why) b e = cc

pub live_by : (s : Stage) → by_stage s ≡ None → s ≡ stage.Live
live_by stage.Unknown e = cc
live_by stage.Live e = refl
live_by (stage.Going deleter) e = cc
live_by stage.Gone e = cc

pub mapped_by : (o : Option Mapping) → refuse_if (map_count o == 0) NotMapped ≡ None → (m : Mapping) × (o ≡ Some m)
mapped_by None e = cc
mapped_by (Some m) e = (m, refl)

-- refused
good_used : (i : ℕ) (n : Node) → Fits i n → Fits i (uses_serial n)
good_used i n f = cond_both (serials_used n == COUNT_LIMIT) _ _ (λ m. Fits i m) (λ w. f) (λ w. fits_used i n f)

pub good_refused : (i : ℕ) (n : Node) (why : Refusal) (c : Call) → Fits i n → Good i (refuses_call why c n)
unfolding refuses_call
good_refused i n why (call.Create size) f = record { node = good_used i n f; posts = tt }
good_refused i n why (call.Delete name) f = record { node = f; posts = tt }
good_refused i n why (call.Map name) f = record { node = f; posts = tt }
good_refused i n why (call.Unmap name) f = record { node = f; posts = tt }
good_refused i n why (call.StartRead name) f = record { node = f; posts = tt }
good_refused i n why (call.EndRead name) f = record { node = f; posts = tt }
good_refused i n why (call.StartWrite name) f = record { node = f; posts = tt }
good_refused i n why (call.EndWrite name after) f = record { node = f; posts = tt }
good_refused i n why (call.Put name offset len) f = record { node = f; posts = tt }
good_refused i n why (call.Add name offset) f = record { node = f; posts = tt }
good_refused i n why (call.Flush name) f = record { node = f; posts = tt }
good_refused i n why (call.Come part) f = record { node = f; posts = tt }

-- a delete
good_own_delete : (i : ℕ) (n : Node) (name : Name) (lifetime : Lifetime) (ms : List ℕ) → is_mine n name ≡ true → Fits i (free n)
    → Good i (deletes_own name (elim ms [ [] ↦ record lifetime { stage = stage.Gone } | m ∷ rest ↦ record lifetime { stage = stage.Going n.me; missing = lifetime.asked } ]) (free n))
good_own_delete i n name lifetime [] mine f = record { node = fits_lifetime i (free n) name (record lifetime { stage = stage.Gone }) mine tt tt f; posts = tt }
good_own_delete i n name lifetime (m ∷ rest) mine f = record {
  node = fits_lifetime i (record n { activity = Waiting (ForDelete name) }) name (record lifetime { stage = stage.Going n.me; missing = lifetime.asked }) mine tt (inr refl)
      (fits_turn i n Free (Waiting (ForDelete name)) free_apart (λ q. tt) tt f);
  posts = purges_leave (free n) name (members n.nodes lifetime.asked);
}

pub good_delete : (i : ℕ) (n : Node) (name : Name) → Fits i (free n) → Good i (deletes name (free n))
unfolding lifetime_begins_delete
good_delete i n name f =
    good_if i (is_mine n name) _ _ (λ mine. good_own_delete i n name (lifetime_of n name) (members n.nodes (lifetime_of n name).asked) mine f)
    (λ other. good_waits i n (ForDelete name) (message_to n name.home (kind.DeleteAsk name) ∷ []) (λ q. tt) tt ((other_way name.home n.me other, other), tt) f)

-- A map.
record_same : (o : Option OpenSection) (m k : Mapping) → k.size ≡ m.size → RecordFits o (Some m) → RecordFits o (Some k)
record_same None m k e f = tt
record_same (Some r) m k e f = (f.0 ∙ sym e, f.1)

record_new : (o : Option OpenSection) (k : Option Mapping) → RecordFits o None → RecordFits o k
record_new None k f = tt
record_new (Some r) k f = absurd f

here_same : (o : Option Home) (m k : Mapping) → k.size ≡ m.size → MappedHere (Some m) o → MappedHere (Some k) o
here_same None m k e f = f
here_same (Some h) m k e f = e ∙ f

there_same : (o : Option Remote) (m k : Mapping) → k.size ≡ m.size → MappedThere (Some m) o → MappedThere (Some k) o
there_same None m k e f = tt
there_same (Some r) m k e f = e ∙ f

own_same : (b : Bool) (v : Seen) (m k : Mapping) → v.mapping ≡ Some m → k.size ≡ m.size → OwnFits b v → OwnFits b (record v { mapping = Some k })
own_same true v m k w e own = record { live = own.live; bytes = own.bytes; mapped = here_same v.home m k e (subst (λ x. MappedHere x v.home) w own.mapped); nothing = own.nothing }
own_same false v m k w e own =
    record { bytes = own.bytes; mapped = there_same v.remote m k e (subst (λ x. MappedThere x v.remote) w own.mapped); nothing = own.nothing; unknown = own.unknown }

pub fits_same_size : (i : ℕ) (n : Node) (name : Name) (m k : Mapping) → n.maps name ≡ Some m → k.size ≡ m.size
    → WaitFits name n.activity (is_mine n name) (Some k) → Fits i n → Fits i (with_mapping name (Some k) n)
fits_same_size i n name m k w e wait f =
    fits_mapping i n name (Some k) (record_same (n.sections.records name) m k e (subst (λ x. RecordFits (n.sections.records name) x) w (f.each name).sections))
    (own_same (is_mine n name) (seen n name) m k w e (f.each name).own) wait f

live_size : (s : Stage) (h : Option Home) → s ≡ stage.Live → LiveFits s h → MappedHere (Some (new_mapping (size_of h) false)) h
live_size s None e f = absurd (subst (λ x. LiveFits x None) e f)
live_size s (Some h) e f = refl

own_new : (b : Bool) (v : Seen) (k : Mapping) → b ≡ true → MappedHere (Some k) v.home → OwnFits b v → OwnFits b (record v { mapping = Some k })
own_new true v k e h own = record { live = own.live; bytes = own.bytes; mapped = h; nothing = own.nothing }
own_new false v k e h own = cc

pub other_new : (b : Bool) (v : Seen) (k : Mapping) → b ≡ false → MappedThere (Some k) v.remote → OwnFits b v → OwnFits b (record v { mapping = Some k })
other_new true v k e h own = cc
other_new false v k e h own = record { bytes = own.bytes; mapped = h; nothing = own.nothing; unknown = own.unknown }

there_sized : (o : Option Remote) (k : Mapping) → SizeIs o k.size → MappedThere (Some k) o
there_sized None k h = tt
there_sized (Some r) k h = sym h

-- no section is open of what isn't mapped
pub no_record : (i : ℕ) (n : Node) (name : Name) (k : Option Mapping) → n.maps name ≡ None → Fits i n → RecordFits (n.sections.records name) k
no_record i n name k e f = record_new (n.sections.records name) k (subst (λ x. RecordFits (n.sections.records name) x) e (f.each name).sections)

good_map_own : (i : ℕ) (n : Node) (name : Name) → n.maps name ≡ None → is_mine n name ≡ true → (lifetime_of n name).stage ≡ stage.Live → Fits i (free n)
    → Good i (maps_in name (new_mapping (size_of (home_of n name)) false) (free n))
good_map_own i n name e mine live f = record {
  node = fits_mapping i (free n) name _ (no_record i (free n) name _ e f)
      (own_new (is_mine n name) (seen (free n) name) _ mine (live_size (lifetime_of n name).stage (home_of n name) live (here_if i (free n) name mine f).live) (f.each name).own) tt f;
  posts = tt;
}

good_map_cached : (i : ℕ) (n : Node) (name : Name) (size : Option ℕ) → cached_size name n.cache ≡ size → n.maps name ≡ None
    → is_mine n name ≡ false → Fits i (free n)
    → Good i (maps_cached name size (free n))
good_map_cached i n name None c e other f =
    good_waits i n (ForMap name false) (message_to n name.home (kind.InfoAsk name) ∷ [])
    (λ q same. (subst (λ x. n.maps x ≡ None) same e, subst (λ x. is_mine n x ≡ false) same other)) (not_cached name n.cache c) (tt, tt) f
good_map_cached i n name (Some size) c e other f =
    let g = fits_cache i (free n) (cache_without name n.cache) (λ q z h. f.cache q z (kept_dropped name q z n.cache h)) tt f in
    let m = free (record n { cache = cache_without name n.cache }) in
    record {
      node = fits_mapping i m name (Some (new_mapping size false)) (no_record i m name _ e g)
          (other_new (is_mine n name) (seen m name) (new_mapping size false) other
          (there_sized (n.remotes name) (new_mapping size false) (f.cache name size (is_cached name n.cache size c))) (g.each name).own) tt g;
      posts = tt;
    }

pub good_map : (i : ℕ) (n : Node) (name : Name) (o : Option Mapping) → n.maps name ≡ o
    → (is_mine n name ≡ true → (lifetime_of n name).stage ≡ stage.Live) → Fits i (free n) → Good i (maps_over name o (free n))
good_map i n name (Some m) e live f = record { node = fits_same_size i (free n) name m (record m { count = m.count + 1 }) e refl tt f; posts = tt }
good_map i n name None e live f =
    good_if i (is_mine n name) _ _ (λ mine. good_map_own i n name e mine (live mine) f) (λ other. good_map_cached i n name (cached_size name n.cache) refl e other f)

-- An unmap.
own_none : (b : Bool) (v : Seen) → OwnFits b v → OwnFits b (record v { mapping = None })
own_none true v own = record { live = own.live; bytes = own.bytes; mapped = tt; nothing = own.nothing }
own_none false v own = record { bytes = own.bytes; mapped = tt; nothing = own.nothing; unknown = own.unknown }

record_closed : (o : Option OpenSection) (m : Option Mapping) → is_closed (section_of o) ≡ true → RecordFits o m → RecordFits o None
record_closed None m h f = tt
record_closed (Some r) None h f = f
record_closed (Some r) (Some m) h f = let w = f.1 in cc

good_evicts : (i : ℕ) (n : Node) (o : Option Name) → Fits i n → Good i (forgets_evicted o n)
good_evicts i n None f = good_only i n f
good_evicts i n (Some name) f = good_forgets i n name f

-- what is in the cache afterwards is the new one or was there
abbrev IsKept : Cached → List Cached → List Cached → Type 0
IsKept new old cache = (q : Name) (size : ℕ) → IsCached q size cache → ((new.name ≡ q) × (new.size ≡ size)) ⊎ IsCached q size old

kept_out : (new : Cached) (cache : List Cached) → IsKept new cache (push_out new cache).cache
kept_out new [] q size h = inr h
kept_out new (oldest ∷ cache) q size h = behind (kept_more q size new cache h)
  where
    behind : ((new.name ≡ q) × (new.size ≡ size)) ⊎ IsCached q size cache → ((new.name ≡ q) × (new.size ≡ size)) ⊎ IsCached q size (oldest ∷ cache)
    behind (inl w) = inl w
    behind (inr w) = inr (inr w)

kept_in : (capacity : ℕ) (new : Cached) (cache : List Cached) → IsKept new cache (cache_with capacity new cache).cache
unfolding cache_with
kept_in capacity new cache =
    cond_both (capacity == 0) _ _ (λ (k : CacheStep). IsKept new cache k.cache) (λ w q size h. inr h)
    (λ w. cond_both (nat_lt (length cache) capacity) _ _ (λ (k : CacheStep). IsKept new cache k.cache) (λ v q size h. kept_more q size new cache h) (λ v. kept_out new cache))

good_caches : (i : ℕ) (n : Node) (name : Name) (size : ℕ) → SizeIs (n.remotes name) size → Fits i (free n) → Good i (caches name size (free n))
good_caches i n name size sized f =
    let kept = cache_with n.capacity (record { name = name; size = size }) n.cache in
    good_evicts i (free (record n { cache = kept.cache })) kept.evicted
    (fits_cache i (free n) kept.cache (λ q z h. its q z (kept_in n.capacity (record { name = name; size = size }) n.cache q z h)) tt f)
  where
    its : (q : Name) (z : ℕ) → ((name ≡ q) × (size ≡ z)) ⊎ IsCached q z n.cache → SizeIs (n.remotes q) z
    its q z (inl w) = subst (λ x. SizeIs (n.remotes q) x) w.1 (subst (λ x. SizeIs (n.remotes x) size) w.0 sized)
    its q z (inr w) = f.cache q z w

sized_there : (o : Option Remote) (m : Mapping) → MappedThere (Some m) o → SizeIs o m.size
sized_there None m h = tt
sized_there (Some r) m h = sym h

pub good_unmap : (i : ℕ) (n : Node) (name : Name) (o : Option Mapping) → n.maps name ≡ o
    → is_closed (section_at name n.sections) ≡ true → Fits i (free n) → Good i (unmaps_over name o (free n))
good_unmap i n name None e closed f = good_only i (free n) f
good_unmap i n name (Some m) e closed f =
    let g = fits_mapping i (free n) name None (record_closed (n.sections.records name) (n.maps name) closed (f.each name).sections)
    (own_none (is_mine n name) (seen (free n) name) (f.each name).own) tt f in
    let u = with_mapping name None n in
    good_if i (m.count == 1) _ _
    (λ w. good_if i (is_mine n name) _ _ (λ mine. good_only i (free u) g)
    (λ other. good_if i m.doomed _ _ (λ v. good_forgets i (free u) name g)
    (λ v. good_caches i u name m.size (sized_there (n.remotes name) m (subst (λ x. MappedThere x (n.remotes name)) e (there_if i (free n) name other f).mapped)) g)))
    (λ w. record { node = fits_same_size i (free n) name m (record m { count = m.count - 1 }) e refl tt f; posts = tt })
