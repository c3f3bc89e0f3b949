-- What the crates above may cite: what holds of every table, and of a function of names with one value put.
pub use Rattle.crl_table.proofs.Names.{at_name_same, at_name_here}
use Rattle.std.proofs.Common.{◌≡◌, ℕ, ◌≤◌, List}
use Rattle.std.specs.declared.option.Option.{Option}
use Rattle.std.specs.declared.option.Option.TheVariants.{Some}
use Rattle.crl_model.specs.declared.name.Name.{Name}
use Rattle.crl_table.specs.Tables.{table_of, HasPlace, weight, weight_of}
use Rattle.crl_table.proofs.Rows.{row_place}
use Rattle.crl_table.proofs.Weights.{one_weight}

-- a name with a row has a place
pub row_has_place : {A : Type 0} (name : Name) (row : A) (places : List (Name × Option A)) → table_of places name ≡ Some row → HasPlace name places
row_has_place name row places h = row_place name row places h

-- a row weighs no more than all rows together
pub row_weighs_less : {A : Type 0} (w : A → ℕ) (name : Name) (places : List (Name × Option A)) → weight_of w (table_of places name) ≤ weight w places
row_weighs_less w name places = one_weight w name places
