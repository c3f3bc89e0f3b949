-- Functions of a node with one value changed.
use Rattle.std.proofs.Common.{◌≡◌, ◌≢◌, ℕ, Bool, true, false, ◌==◌, refl, sym, ap, ◌∙◌}
use Rattle.std.proofs.lemmas.Bool.{cond-true, cond-false, eqb-true, eqb-false}
use Rattle.crl_model.specs.Names.{at_node}

pub is_at_node : {X : Type 0} (f g : ℕ → X) (n : ℕ) (v : X) → g n ≡ v → ((i : ℕ) → i ≢ n → g i ≡ f i) → g ≡ at_node f n v
is_at_node f g n v here others = λ j i. each i (n == i) refl j
  where
    each : (i : ℕ) (same : Bool) → (n == i) ≡ same → g i ≡ at_node f n v i
    each i true e = ap g (sym (eqb-true n i e)) ∙ here ∙ sym (cond-true (n == i) v (f i) e)
    each i false e = others i (λ w. eqb-false n i e (sym w)) ∙ sym (cond-false (n == i) v (f i) e)

pub as_it_was : {X : Type 0} (f : ℕ → X) (n : ℕ) (v : X) → f n ≡ v → at_node f n v ≡ f
as_it_was f n v h = sym (is_at_node f f n v h (λ i w. refl))
