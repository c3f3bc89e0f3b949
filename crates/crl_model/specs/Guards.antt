-- What a program holds while its section is open.
use Rattle.std.specs.Prelude.{ℕ, List}
use Rattle.crl_model.specs.declared.name.Name.{Name}

-- the node, the name of the region, the number of the section by the node's count, and the bytes
pub record Guard : Type 0 where
  pub node : ℕ
  pub name : Name
  pub number : ℕ
  pub bytes : List ℕ
