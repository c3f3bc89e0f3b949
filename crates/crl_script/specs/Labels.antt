-- The names that labels stand for.
use Rattle.std.specs.Prelude.{ℕ, List, Option, Some, None}
use Rattle.std.specs.BTreeMap.{BTreeMap, get_by}
use Rattle.std.specs.Cmp.Lexicographic.{slice_cmp}
use Rattle.std.specs.Ordering.{nat_cmp}
use denote.Ref.{Bor}
use Rattle.crl_model.specs.declared.name.Name.{Name}
use Rattle.crl_script.specs.declared.label.Known.{Known}
use Rattle.crl_script.specs.declared.label.Known.TheVariants.{Any, SoFar, These}

-- the names that labels stand for
abbrev pub Names : Type 0
Names = List ℕ → Option Name

-- no label has a name
abbrev pub no_names : Names
no_names label = None

-- each label has a name, that of no region
abbrev pub any_name : Names
any_name label = Some (record { home = 0; serial = 0 })

-- the names that a map has
abbrev pub names_in : BTreeMap (Bor (List ℕ)) Name → Names
names_in m label = get_by (λ key. slice_cmp nat_cmp label key.now) m

-- the names that a map has, if there is one
abbrev pub known_names : Option (Bor (BTreeMap (Bor (List ℕ)) Name)) → Names
known_names None = any_name
known_names (Some m) = names_in m.now

-- the names that labels have at a statement, where those created before it have these
abbrev pub names_at : Known → Names → Names
names_at Any so_far = any_name
names_at SoFar so_far = so_far
names_at (These m) so_far = names_in m.now
