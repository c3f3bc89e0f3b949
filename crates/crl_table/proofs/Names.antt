-- Functions of a name with one value put.
use Rattle.std.proofs.Common.{◌≡◌, Bool, true, false, subst, sym, ap, refl, if◌then◌else◌}
use Rattle.crl_model.specs.declared.name.Name.{Name}
use Rattle.crl_model.specs.Names.{name_eq, at_name}
use Rattle.crl_model.proofs.Laws.{same_name, name_eq_self}

-- a value put where it is already changes nothing
pub at_name_same : {X : Type 0} (f : Name → X) (name : Name) (v : X) → f name ≡ v → at_name f name v ≡ f
at_name_same {X} f name v h = λ i q. go q (name_eq name q) refl i
  where
    go : (q : Name) (b : Bool) → name_eq name q ≡ b → (if b then v else f q) ≡ f q
    go q true e = subst (λ (m : Name). v ≡ f m) (same_name name q e) (sym h)
    go q false e = refl

-- a value stands where it was put
pub at_name_here : {X : Type 0} (f : Name → X) (name : Name) (v : X) → at_name f name v name ≡ v
at_name_here f name v = ap (λ b. if b then v else f name) (name_eq_self name)
