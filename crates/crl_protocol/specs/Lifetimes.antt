-- How nodes come to have a region and part with it: maps, the cache of unmapped names, and deletes.
use Rattle.std.specs.Prelude.{ℕ, zero, suc, ◌+◌, ◌==◌, nat_lt, Bool, true, false, if◌then◌else◌, List, [], ◌∷◌, ◌++◌, length}
use Rattle.std.specs.declared.option.Option.{Option}
use Rattle.std.specs.declared.option.Option.TheVariants.{None, Some}
pub use Rattle.crl_model.specs.declared.mapping.Mapping.{Mapping}
pub use Rattle.crl_model.specs.declared.mapping.Cached.{Cached}
use Rattle.crl_model.specs.declared.name.Name.{Name}
use Rattle.crl_model.specs.declared.stage.Stage.{Stage}
use Rattle.crl_model.specs.declared.stage.Stage.TheVariants.{Unknown, Live, Going, Gone}
use Rattle.crl_model.specs.Names.{name_eq, at_node}

abbrev pub new_mapping : ℕ → Bool → Mapping
new_mapping size doomed = record { size = size; count = 1; doomed = doomed }

-- The cache: regions that the node has unmapped, and whose copies it keeps, the oldest first.
abbrev pub cached_size : Name → List Cached → Option ℕ
cached_size name [] = None
cached_size name (kept ∷ cache) = if name_eq kept.name name then Some kept.size else cached_size name cache

abbrev pub cache_without : Name → List Cached → List Cached
cache_without name [] = []
cache_without name (kept ∷ cache) = if name_eq kept.name name then cache else kept ∷ cache_without name cache

-- the cache with one region more, and the name that it gives up: the oldest, where it was full
pub record CacheStep : Type 0 where
  pub cache : List Cached
  pub evicted : Option Name

abbrev pub push_out : Cached → List Cached → CacheStep
push_out new [] = record { cache = []; evicted = Some new.name }
push_out new (oldest ∷ cache) = record { cache = cache ++ new ∷ []; evicted = Some oldest.name }

unfoldable pub cache_with : ℕ → Cached → List Cached → CacheStep
cache_with capacity new cache =
    if capacity == 0 then record { cache = cache; evicted = Some new.name }
    else if nat_lt (length cache) capacity then record { cache = cache ++ new ∷ []; evicted = None }
    else push_out new cache

-- What the home knows of who has a region of its: where the region stands, the nodes that asked for it
-- when they mapped it, and of these the ones that a delete still waits for.
pub record Lifetime : Type 0 where
  pub stage : Stage
  pub asked : ℕ → Bool
  pub missing : ℕ → Bool

abbrev pub nobody : ℕ → Bool
nobody n = false

abbrev pub no_lifetime : Lifetime
no_lifetime = record { stage = Unknown; asked = nobody; missing = nobody }

abbrev pub new_lifetime : Lifetime
new_lifetime = record { stage = Live; asked = nobody; missing = nobody }

-- the members from node m on, by number, of k nodes
abbrev pub members_from : ℕ → ℕ → (ℕ → Bool) → List ℕ
members_from m zero set = []
members_from m (suc k) set = if set m then m ∷ members_from (m + 1) k set else members_from (m + 1) k set

abbrev pub members : ℕ → (ℕ → Bool) → List ℕ
members nodes set = members_from 0 nodes set

-- a node asks whether the region is there
unfoldable pub lifetime_with_asker : ℕ → Lifetime → Lifetime
lifetime_with_asker n lifetime = elim lifetime.stage [
  | Unknown ↦ lifetime
  | Live ↦ record lifetime { asked = at_node lifetime.asked n true }
  | Going deleter ↦ lifetime
  | Gone ↦ lifetime
]

-- the delete of a live region begins; it is done at once where no node asked
unfoldable pub lifetime_begins_delete : ℕ → ℕ → Lifetime → Lifetime
lifetime_begins_delete nodes deleter lifetime = elim (members nodes lifetime.asked) [
  | [] ↦ record lifetime { stage = Gone }
  | m ∷ ms ↦ record lifetime { stage = Going deleter; missing = lifetime.asked }
]

-- the answer of a node for which a delete waits comes; it is done with the last of them
abbrev pub lifetime_after_answer : ℕ → (ℕ → Bool) → Lifetime → Lifetime
lifetime_after_answer nodes missing lifetime = elim (members nodes missing) [
  | [] ↦ record lifetime { stage = Gone; missing = missing }
  | m ∷ ms ↦ record lifetime { missing = missing }
]

unfoldable pub lifetime_takes_purged : ℕ → ℕ → Lifetime → Lifetime
lifetime_takes_purged nodes n lifetime = lifetime_after_answer nodes (at_node lifetime.missing n false) lifetime
