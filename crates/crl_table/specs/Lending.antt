-- What becomes of a table whose row was lent.
use Rattle.std.specs.Prelude.{◌≡◌, List, OnSome}
use Rattle.std.specs.Borrow.{follows_so, MutBor, Fml, RattleType}
use Rattle.std.specs.Option.{ghost_name_of}
use Rattle.std.specs.declared.option.Option.{Option}
use Rattle.crl_model.specs.declared.name.Name.{Name}
use Rattle.crl_table.specs.Tables.{IsPut}
use Rattle.crl_table.specs.contracts.table.Table.{the_row}

-- the table behind t has, for the name, the last row written through r, and is unchanged if r is none
abbrev pub lends_row : (T : RattleType) → MutBor (List (Name × Option T.Denot)) → Name → Option (MutBor T.Denot) → Fml
lends_row T t name r = follows_so (the_row T) T t.ghost_name (ghost_name_of r) (λ row new. OnSome r (IsPut name row t.now new)) (λ new. new ≡ t.now)
