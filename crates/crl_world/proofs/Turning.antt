-- The choices of a turn, by which nodes have a statement left, are those of a run on its way.
use Rattle.std.proofs.Common.{◌≡◌, ℕ, zero, suc, ◌+◌, ◌<◌, Bool, List, [], ◌∷◌, ◌++◌, refl, ap, ap₂, ◌∙◌, arith}
use Rattle.crl_model.specs.declared.statement.Statement.{Statement}
use Rattle.crl_protocol.specs.Node.{Activity, Free, Waiting, Ready}
use Rattle.crl_protocol.specs.Chosen.{Running, choices, next_of, nexts_from, handles_of, handles_from, carries_of, carries_from}
use Rattle.crl_world.specs.Choosing.{next_if, row_from, choices_by, has_some}

next_same : (i : ℕ) (left : List Statement) (a : Activity) → next_if i (has_some left) a ≡ next_of i left a
next_same i [] Free = refl
next_same i (s ∷ left) Free = refl
next_same i [] (Waiting awaited) = refl
next_same i (s ∷ left) (Waiting awaited) = refl
next_same i [] (Ready answer) = refl
next_same i (s ∷ left) (Ready answer) = refl

module _ (r : Running) (left : ℕ → Bool) (says : (i : ℕ) → i < r.world.count → left i ≡ has_some (r.actors i).left) where
  nexts_same : (i k : ℕ) → i + k ≡ r.world.count → row_from (λ m. next_if m (left m) (r.world.nodes m).activity) i k ≡ nexts_from i k r
  nexts_same i zero e = refl
  nexts_same i (suc k) e =
      let below : i < r.world.count = omega arith in
      let next : (i + 1) + k ≡ r.world.count = omega arith in
      ap₂ (λ a b. a ++ b) (ap (λ h. next_if i h (r.world.nodes i).activity) (says i below) ∙ next_same i (r.actors i).left (r.world.nodes i).activity) (nexts_same (i + 1) k next)

  handles_same : (i k : ℕ) → row_from (λ m. handles_of m 0 (r.world.nodes m).inbox) i k ≡ handles_from i k r
  handles_same i zero = refl
  handles_same i (suc k) = ap (λ l. handles_of i 0 (r.world.nodes i).inbox ++ l) (handles_same (i + 1) k)

  carries_same : (i k : ℕ) → row_from (λ m. carries_of m 0 (r.world.nodes m).outbox) i k ≡ carries_from i k r
  carries_same i zero = refl
  carries_same i (suc k) = ap (λ l. carries_of i 0 (r.world.nodes i).outbox ++ l) (carries_same (i + 1) k)

  pub choices_of_run : choices_by left r.world ≡ choices r
  choices_of_run =
      let whole : 0 + r.world.count ≡ r.world.count = omega arith in
      ap₂ (λ a b. a ++ b) (nexts_same 0 r.world.count whole) (ap₂ (λ a b. a ++ b) (handles_same 0 r.world.count) (carries_same 0 r.world.count))
