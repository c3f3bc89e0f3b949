-- The bytes of a region.
use Rattle.std.specs.Prelude.{◌≡◌, ℕ, List}
use Rattle.std.specs.declared.option.Option.{Option}
use Rattle.crl_model.specs.declared.name.Name.{Name}
use Rattle.crl_protocol.specs.World.{World}
use Rattle.crl_protocol.specs.Ends.{bytes_from, first_some}

-- the bytes of the first exclusive copy of the region, if there is one: they stand before those of the home
abbrev pub FirstIs : Name → World → Option (List ℕ) → Type 0
FirstIs name w first = (bytes : List ℕ) → bytes_from name bytes 0 w.count w.nodes ≡ first_some first bytes
