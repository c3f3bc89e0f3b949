-- Where the newest guard of a region stands.
use Rattle.std.specs.Prelude.{◌≡◌, ℕ, suc, ◌<◌, List, ◌++◌, length, take, drop, slice_index_or, slice_set, map, Some, None}
use Rattle.crl_model.specs.declared.name.Name.{Name}
use Rattle.crl_run.specs.declared.held.Held.{Held}
use Rattle.crl_run.specs.Holding.{given, with_bytes_in}
use Rattle.crl_run.specs.Players.{newest, guards_without, guards_with}

-- it stands at this place
pub record GuardStandsAt (name : Name) (guards : List Held) (place : ℕ) : Type 0 where
  pub within : place < length guards
  pub it : (d : Held) → newest name (map given guards) ≡ Some (given (slice_index_or guards place d))
  pub rest : guards_without name (map given guards) ≡ map given (take place guards ++ drop (suc place) guards)
  pub change : (f : List ℕ → List ℕ) (d h : Held) → given h ≡ with_bytes_in (given (slice_index_or guards place d)) (f (given (slice_index_or guards place d)).guard.bytes)
      → guards_with name f (map given guards) ≡ map given (slice_set guards place h)

-- it stands nowhere
pub record GuardStandsNowhere (name : Name) (guards : List Held) : Type 0 where
  pub it : newest name (map given guards) ≡ None
  pub rest : guards_without name (map given guards) ≡ map given guards
