-- Where a name stands among the regions that are kept.
use Rattle.std.specs.Prelude.{◌≡◌, ℕ, suc, ◌<◌, List, ◌++◌, length, take, drop, slice_index_or, Some, None}
use Rattle.crl_model.specs.declared.name.Name.{Name}
use Rattle.crl_model.specs.declared.mapping.Cached.{Cached}
use Rattle.crl_protocol.specs.Lifetimes.{cached_size, cache_without}

-- the name stands at this place
pub record StandsAt (name : Name) (list : List Cached) (place : ℕ) : Type 0 where
  pub within : place < length list
  pub size : (d : Cached) → cached_size name list ≡ Some (slice_index_or list place d).size
  pub rest : cache_without name list ≡ take place list ++ drop (suc place) list

-- the name stands nowhere
pub record StandsNowhere (name : Name) (list : List Cached) : Type 0 where
  pub size : cached_size name list ≡ None
  pub rest : cache_without name list ≡ list
