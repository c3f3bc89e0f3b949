-- A name is looked for, place by place.
use Rattle.std.proofs.Common.{◌≡◌, ◌∙◌, ap, refl, true, Some, slice_index_or, ℕ, suc, ◌<◌, List, ◌∷◌, ◌++◌, length, take, drop}
use Rattle.crl_model.specs.declared.name.Name.{Name}
use Rattle.crl_model.specs.declared.mapping.Cached.{Cached}
use Rattle.crl_model.specs.Names.{name_eq}
use Rattle.std.proofs.Math.Seq.{drop-cons}
use Rattle.std.proofs.lemmas.List.{get_or_default}
use Rattle.crl_cache.specs.KeptPlaces.{StandsAt}
use Rattle.crl_protocol.specs.Lifetimes.{cached_size, cache_without}

-- the name doesn't stand before the place
pub record IsPast (name : Name) (list : List Cached) (place : ℕ) : Type 0 where
  pub size : cached_size name list ≡ cached_size name (drop place list)
  pub rest : cache_without name list ≡ take place list ++ cache_without name (drop place list)

module _ (name : Name) (x : Cached) (xs : List Cached) (same : name_eq x.name name ≡ true) where
  first_size : cached_size name (x ∷ xs) ≡ Some x.size
  first_size = rw same refl

  first_rest : cache_without name (x ∷ xs) ≡ xs
  first_rest = rw same refl

-- the name stands here
pub found : (name : Name) (list : List Cached) (place : ℕ) (any : Cached) → IsPast name list place → place < length list → name_eq (slice_index_or list place any).name name ≡ true → StandsAt name list place
found name list place any past within same =
    let behind : List Cached = drop (suc place) list in
    record {
      within = within;
      size = λ d. past.size ∙ ap (cached_size name) (drop-cons list place any within) ∙ first_size name (slice_index_or list place any) behind same
          ∙ ap (λ (x : Cached). Some x.size) (get_or_default list place any d within);
      rest = past.rest ∙ ap (λ l. take place list ++ cache_without name l) (drop-cons list place any within)
          ∙ ap (λ l. take place list ++ l) (first_rest name (slice_index_or list place any) behind same);
    }
