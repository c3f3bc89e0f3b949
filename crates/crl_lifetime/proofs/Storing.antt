-- What a node has of a region, in numbers: entries mapped and cached, each weighed by its size.
use Rattle.std.proofs.Common.{◌≡◌, ℕ, ◌+◌, ◌≤◌, ◌==◌, nat_lt, Bool, true, false, None, Some, Option, List, [], ◌∷◌, ◌++◌, length, if◌then◌else◌, refl, ap, ◌∙◌, arith}
use Rattle.std.proofs.lemmas.Bool.{cond_both, cond-true, cond-false}
use Rattle.crl_model.specs.declared.name.Name.{Name}
use Rattle.crl_model.specs.declared.stage.Stage.{Stage}
use Rattle.crl_model.specs.declared.stage.Stage.TheVariants as stage
use Rattle.crl_model.specs.Names.{name_eq}
use Rattle.crl_protocol.specs.Lifetimes.{Mapping, Cached, CacheStep, cached_size, cache_without, cache_with, push_out}
use Rattle.crl_protocol.specs.Node.{Node, ForMap, Activity, Waiting}
use Rattle.crl_deeds.specs.Tokens.{waits_map}
use Rattle.crl_deeds.proofs.Laws.{same_name, name_self}
use Rattle.crl_lifetime.specs.Lifetime.{one_if}
use Rattle.crl_lifetime.proofs.Weights.{if_named}

pub named_self : (name : Name) (x : ℕ) → if_named name name x ≡ x
named_self name x = cond-true (name_eq name name) x 0 (name_self name)

pub named_other : (name q : Name) (x : ℕ) → name_eq name q ≡ false → if_named name q x ≡ 0
named_other name q x e = cond-false (name_eq name q) x 0 e

abbrev pub one : ℕ → ℕ
one size = 1

abbrev pub mapped_weight : (ℕ → ℕ) → Option Mapping → ℕ
mapped_weight f None = 0
mapped_weight f (Some m) = f m.size

abbrev pub stored_weight : (ℕ → ℕ) → Name → List Cached → ℕ
stored_weight f q [] = 0
stored_weight f q (kept ∷ cache) = if_named kept.name q (f kept.size) + stored_weight f q cache

abbrev pub entry_weight : (ℕ → ℕ) → Name → Node → ℕ
entry_weight f q n = mapped_weight f (n.maps q) + stored_weight f q n.cache

-- those that aren't doomed, and the doomed one
abbrev pub sound_map : Option Mapping → ℕ
sound_map None = 0
sound_map (Some m) = if m.doomed then 0 else 1

abbrev pub doomed_map : Option Mapping → ℕ
doomed_map None = 0
doomed_map (Some m) = if m.doomed then 1 else 0

abbrev pub sound_entries : Name → Node → ℕ
sound_entries q n = sound_map (n.maps q) + stored_weight one q n.cache

-- a map of the region that waits, and was purged meanwhile
abbrev pub marked_maps : Name → Activity → ℕ
marked_maps q (Waiting (ForMap p purged)) = if_named p q (one_if purged)
marked_maps q _ = 0

-- where a region stands
abbrev pub made_of : Stage → ℕ
made_of stage.Unknown = 0
made_of _ = 1

abbrev pub going_of : Stage → ℕ
going_of (stage.Going deleter) = 1
going_of _ = 0

abbrev pub deleted_of : Stage → ℕ
deleted_of (stage.Going deleter) = 1
deleted_of stage.Gone = 1
deleted_of _ = 0

pub flag_few : (b : Bool) → one_if b ≤ 1
flag_few true = omega arith
flag_few false = omega arith

pub deleted_few : (s : Stage) → deleted_of s ≤ 1
deleted_few stage.Unknown = omega arith
deleted_few stage.Live = omega arith
deleted_few (stage.Going deleter) = omega arith
deleted_few stage.Gone = omega arith

pub going_deleted : (s : Stage) → going_of s ≤ deleted_of s
going_deleted stage.Unknown = omega arith
going_deleted stage.Live = omega arith
going_deleted (stage.Going deleter) = omega arith
going_deleted stage.Gone = omega arith

pub two_maps : (o : Option Mapping) → sound_map o + doomed_map o ≡ mapped_weight one o
two_maps None = refl
two_maps (Some m) = go m.doomed
  where
    go : (b : Bool) → (if b then 0 else 1) + (if b then 1 else 0) ≡ 1
    go true = refl
    go false = refl

-- The cache.
pub stored_none : (f : ℕ → ℕ) (q : Name) (cache : List Cached) → cached_size q cache ≡ None → stored_weight f q cache ≡ 0
stored_none f q [] e = refl
stored_none f q (kept ∷ cache) e = go (name_eq kept.name q) (λ w. stored_none f q cache w) e
  where
    go : (b : Bool) → (cached_size q cache ≡ None → stored_weight f q cache ≡ 0) → (if b then Some kept.size else cached_size q cache) ≡ None → (if b then f kept.size else 0) + stored_weight f q cache ≡ 0
    go true rest e = cc
    go false rest e = let h = rest e in omega arith

pub none_stored : (q : Name) (cache : List Cached) → stored_weight one q cache ≡ 0 → cached_size q cache ≡ None
none_stored q [] e = refl
none_stored q (kept ∷ cache) e = go (name_eq kept.name q) (λ w. none_stored q cache w) e
  where
    go : (b : Bool) → (stored_weight one q cache ≡ 0 → cached_size q cache ≡ None) → (if b then 1 else 0) + stored_weight one q cache ≡ 0 → (if b then Some kept.size else cached_size q cache) ≡ None
    go true rest e = absurd (omega arith)
    go false rest e = rest (omega arith)

-- one is taken out
pub stored_out : (f : ℕ → ℕ) (name : Name) (size : ℕ) (cache : List Cached) → cached_size name cache ≡ Some size → (q : Name) → stored_weight f q (cache_without name cache) + if_named name q (f size) ≡ stored_weight f q cache
stored_out f name size [] e q = cc
stored_out f name size (kept ∷ cache) e q = go (name_eq kept.name name) refl (λ w. stored_out f name size cache w q) e
  where
    go : (b : Bool) → name_eq kept.name name ≡ b → (cached_size name cache ≡ Some size → stored_weight f q (cache_without name cache) + if_named name q (f size) ≡ stored_weight f q cache)
        → (if b then Some kept.size else cached_size name cache) ≡ Some size
        → stored_weight f q (if b then cache else kept ∷ cache_without name cache) + if_named name q (f size) ≡ if_named kept.name q (f kept.size) + stored_weight f q cache
    go true w rest e =
        let same : kept.size ≡ size = cc in
        let a : if_named kept.name q (f kept.size) ≡ if_named name q (f size) = ap (λ x. if_named x q (f kept.size)) (same_name kept.name name w) ∙ ap (λ s. if_named name q (f s)) same in omega arith
    go false w rest e = let h = rest e in omega arith

stored_append : (f : ℕ → ℕ) (q : Name) (new : Cached) (cache : List Cached) → stored_weight f q (cache ++ new ∷ []) ≡ stored_weight f q cache + if_named new.name q (f new.size)
stored_append f q new [] = omega arith
stored_append f q new (kept ∷ cache) = let h = stored_append f q new cache in omega arith

-- and one put in: nothing else comes
pub stored_in : (f : ℕ → ℕ) (q : Name) (capacity : ℕ) (new : Cached) (cache : List Cached) → stored_weight f q (cache_with capacity new cache).cache ≤ stored_weight f q cache + if_named new.name q (f new.size)
unfolding cache_with
stored_in f q capacity new cache =
    cond_both (capacity == 0) _ _ (λ (s : CacheStep). stored_weight f q s.cache ≤ stored_weight f q cache + if_named new.name q (f new.size)) (λ w. omega arith)
    (λ w. cond_both (nat_lt (length cache) capacity) _ _ (λ (s : CacheStep). stored_weight f q s.cache ≤ stored_weight f q cache + if_named new.name q (f new.size)) (λ v. let h = stored_append f q new cache in omega arith) (λ v. pushed cache))
  where
    pushed : (xs : List Cached) → stored_weight f q (push_out new xs).cache ≤ stored_weight f q xs + if_named new.name q (f new.size)
    pushed [] = omega arith
    pushed (oldest ∷ xs) = let h = stored_append f q new xs in omega arith

-- a name that waits has a mark or none
pub marked_few : (q : Name) (a : Activity) → marked_maps q a ≤ waits_map q a
marked_few q (Waiting (ForMap p purged)) = go (name_eq p q) (flag_few purged)
  where
    go : (b : Bool) → one_if purged ≤ 1 → (if b then one_if purged else 0) ≤ (if b then 1 else 0)
    go true h = omega arith
    go false h = omega arith
marked_few q _ = omega arith
