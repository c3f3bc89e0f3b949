-- What is seen of a cache.
use Rattle.std.specs.Prelude.{ℕ, List}
use Rattle.crl_model.specs.declared.mapping.Cached.{Cached}

-- how many regions it keeps at most, and those that it keeps, the oldest first
pub record CacheState : Type 0 where
  pub capacity : ℕ
  pub list : List Cached
