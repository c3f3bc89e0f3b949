-- Functions of a node or a name, or of both, with one value put.
use Rattle.std.proofs.Common.{◌≡◌, ℕ, Bool, true, false, refl, ap, ◌∙◌, ◌==◌, ◌&&◌, if◌then◌else◌}
use Rattle.std.proofs.lemmas.Bool.{eqb-true}
use Rattle.crl_model.specs.declared.name.Name.{Name}
use Rattle.crl_model.specs.Names.{name_eq, at_node, at_name, at_pair}
use Rattle.crl_model.proofs.Laws.{same_name}

pub at_node_same : {X : Type 0} (f : ℕ → X) (n : ℕ) (v : X) → v ≡ f n → at_node f n v ≡ f
at_node_same {X} f n v e = λ i m. go m (n == m) refl i
  where
    go : (m : ℕ) (b : Bool) → (n == m) ≡ b → (if b then v else f m) ≡ f m
    go m true h = e ∙ ap f (eqb-true n m h)
    go m false h = refl

-- a function of both, changed at the name by what is changed at one node
pub at_pair_of : {X : Type 0} (f : ℕ → Name → X) (n : ℕ) (name : Name) (v : X) (x : ℕ → X) → ((m : ℕ) → x m ≡ (if n == m then v else f m name)) → (λ m. at_name (f m) name (x m)) ≡ at_pair f n name v
at_pair_of {X} f n name v x e = λ i m q. go m q (name_eq name q) (n == m) refl (e m) i
  where
    go : (m : ℕ) (q : Name) (b c : Bool) → name_eq name q ≡ b → x m ≡ (if c then v else f m name) → (if b then x m else f m q) ≡ (if c && b then v else f m q)
    go m q true true h k = k
    go m q true false h k = k ∙ ap (f m) (same_name name q h)
    go m q false true h k = refl
    go m q false false h k = refl
