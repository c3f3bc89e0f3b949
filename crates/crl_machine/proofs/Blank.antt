-- NodeRows of nodes that did nothing yet.
use Rattle.std.proofs.Common.{◌≡◌, ℕ, zero, suc, List, [], ◌∷◌, refl, arith}
use Rattle.std.specs.Prelude.{slice_get}
use Rattle.std.specs.List.{All}
use Rattle.std.specs.Option.{option_map_or}
use Rattle.std.specs.declared.option.Option.TheVariants.{None}
use Rattle.crl_machine.specs.declared.node_row.NodeRow.{NodeRow}

pub record IsBlank (d : NodeRow) : Type 0 where
  pub used : d.used ≡ 0
  pub came : d.came.items ≡ []
  pub told : d.told ≡ 0
  pub deletes : d.deletes ≡ None

tail_blank : (d : NodeRow) (ds : List NodeRow) → All IsBlank (d ∷ ds) → All IsBlank ds
tail_blank d ds a k e h = a (suc k) e (grind arith)

-- what holds of nothing and of each blank row
pub each_blank : (P : List NodeRow → ℕ → Type 0) → ((n : ℕ) → P [] n) → ((d : NodeRow) (ds : List NodeRow) → IsBlank d → P (d ∷ ds) 0)
    → ((d : NodeRow) (ds : List NodeRow) (n : ℕ) → P ds n → P (d ∷ ds) (suc n)) → (ds : List NodeRow) (n : ℕ) → All IsBlank ds → P ds n
each_blank P none here later [] n a = none n
each_blank P none here later (d ∷ ds) zero a = here d ds (a 0 d (omega arith))
each_blank P none here later (d ∷ ds) (suc n) a = later d ds n (each_blank P none here later ds n (tail_blank d ds a))

pub used_blank : (ds : List NodeRow) (n : ℕ) → All IsBlank ds → option_map_or (λ (d : NodeRow). d.used) (slice_get ds n) 0 ≡ 0
used_blank ds n a = each_blank (λ ds n. option_map_or (λ (d : NodeRow). d.used) (slice_get ds n) 0 ≡ 0) (λ n. refl) (λ d ds b. b.used) (λ d ds n h. h) ds n a

pub came_blank : (ds : List NodeRow) (n : ℕ) → All IsBlank ds → option_map_or (λ (d : NodeRow). d.came.items) (slice_get ds n) [] ≡ []
came_blank ds n a = each_blank (λ ds n. option_map_or (λ (d : NodeRow). d.came.items) (slice_get ds n) [] ≡ []) (λ n. refl) (λ d ds b. b.came) (λ d ds n h. h) ds n a

pub told_blank : (ds : List NodeRow) (n : ℕ) → All IsBlank ds → option_map_or (λ (d : NodeRow). d.told) (slice_get ds n) 0 ≡ 0
told_blank ds n a = each_blank (λ ds n. option_map_or (λ (d : NodeRow). d.told) (slice_get ds n) 0 ≡ 0) (λ n. refl) (λ d ds b. b.told) (λ d ds n h. h) ds n a

pub deletes_blank : (ds : List NodeRow) (n : ℕ) → All IsBlank ds → option_map_or (λ (d : NodeRow). d.deletes) (slice_get ds n) None ≡ None
deletes_blank ds n a = each_blank (λ ds n. option_map_or (λ (d : NodeRow). d.deletes) (slice_get ds n) None ≡ None) (λ n. refl) (λ d ds b. b.deletes) (λ d ds n h. h) ds n a
