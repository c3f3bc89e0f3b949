-- The order of names, and functions of a node or a name with one value changed.
use Rattle.std.specs.Prelude.{ℕ, Bool, ◌&&◌, ◌==◌, if◌then◌else◌}
use Rattle.std.specs.declared.cmp.Ordering.{Ordering}
use Rattle.crl_model.specs.declared.name.Name.{Name}
use Rattle.crl_model.specs.contracts.name.NameOrd.TheImpl as name_ord

abbrev pub name_cmp : Name → Name → Ordering
name_cmp = (name_ord.ghosts).cmp

abbrev pub name_eq : Name → Name → Bool
name_eq a b = (a.home == b.home) && (a.serial == b.serial)

-- f, but v at the node
abbrev pub at_node : {X : Type 0} → (ℕ → X) → ℕ → X → ℕ → X
at_node f n v m = if n == m then v else f m

-- f, but v at the name
abbrev pub at_name : {X : Type 0} → (Name → X) → Name → X → Name → X
at_name f name v q = if name_eq name q then v else f q

-- f, but v at the node and the name
abbrev pub at_pair : {X : Type 0} → (ℕ → Name → X) → ℕ → Name → X → ℕ → Name → X
at_pair f n name v m q = if (n == m) && name_eq name q then v else f m q
