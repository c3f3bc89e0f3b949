-- What a round gives: the fold of its parts, one of each node.
use Rattle.std.specs.Prelude.{◌≡◌, ◌≢◌, ℕ, ◌<◌, List, [], ◌∷◌, length, map, slice_get, ℤ, pos, ◌+ℤ◌, ◌≤ℤ◌}
use Rattle.std.specs.List.{All, Contains}
use Rattle.std.specs.declared.option.Option.TheVariants.{Some}
use Rattle.crl_model.specs.declared.collective.Part.{Part}
use Rattle.crl_model.specs.declared.collective.Part.TheVariants as part
use Rattle.crl_model.specs.declared.collective.Fold.{Fold}
use Rattle.crl_model.specs.declared.collective.Fold.TheVariants.{Barrier, Broadcast, Sum, Min, Max, Mixed}

abbrev pub total : List ℤ → ℤ
total [] = pos 0
total (v ∷ vs) = v +ℤ total vs

-- The parts agree, and this is what they give: all are barriers; one sends and all others receive; all
-- bring a number to add, or to find the least or the greatest.
abbrev pub Agrees : List Part → Fold → Type 0
Agrees parts Barrier = All (λ p. p ≡ part.Barrier) parts
Agrees parts (Broadcast bytes) =
    (i : ℕ) × (slice_get parts i ≡ Some (part.Send bytes)) × ((j : ℕ) → j < length parts → j ≢ i → slice_get parts j ≡ Some part.Receive)
Agrees parts (Sum v) = (vs : List ℤ) × (parts ≡ map part.Sum vs) × (v ≡ total vs)
Agrees parts (Min v) = (vs : List ℤ) × (parts ≡ map part.Min vs) × Contains vs v × All (λ w. v ≤ℤ w) vs
Agrees parts (Max v) = (vs : List ℤ) × (parts ≡ map part.Max vs) × Contains vs v × All (λ w. w ≤ℤ v) vs
Agrees parts Mixed = ⊥

-- the parts don't agree
abbrev pub IsMixed : List Part → Type 0
IsMixed parts = (fold : Fold) → Agrees parts fold → ⊥
