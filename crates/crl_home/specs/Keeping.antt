-- What stays true of the tables of a home when one is taken out, and when one is put in.
use Rattle.std.specs.Prelude.{ℕ, ◌+◌, ◌<◌, ◌≡◌, List, length}
use Rattle.std.specs.declared.option.Option.{Option}
use Rattle.std.specs.declared.option.Option.TheVariants.{None, Some}
use Rattle.crl_protocol.specs.Places.{at, put}
use Rattle.crl_protocol.specs.Home.{Home}
use Rattle.crl_home.specs.Debts.{owed}
use Rattle.crl_home.specs.HomesState.{owed_in, table_or, HaveNodes}

pub record TakeKeeps (place nodes : ℕ) (homes : List (Option Home)) : Type 0 where
  pub owes : owed_in (put place None homes) + owed (table_or (at place homes)) ≡ owed_in homes
  pub copies : HaveNodes nodes (put place None homes)
  pub table : length (table_or (at place homes)).listed ≡ nodes
  pub len : length (put place None homes) ≡ length homes
  pub within : place < length homes
  pub gone : at place (put place None homes) ≡ None

pub record PutKeeps (place nodes : ℕ) (home : Home) (homes : List (Option Home)) : Type 0 where
  pub owes : owed_in (put place (Some home) homes) ≡ owed_in homes + owed home
  pub copies : HaveNodes nodes (put place (Some home) homes)
  pub len : length (put place (Some home) homes) ≡ length homes
