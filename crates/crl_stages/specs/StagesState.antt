-- Who has the regions of one home.
use Rattle.std.specs.Prelude.{ℕ, zero, suc, ◌+◌, ◌-◌, ◌≤◌, ◌≡◌, ◌==◌, if◌then◌else◌, List, [], ◌∷◌, length, All}
use Rattle.std.specs.declared.option.Option.{Option}
use Rattle.std.specs.declared.option.Option.TheVariants.{None, Some}
use Rattle.crl_protocol.specs.Lifetimes.{Lifetime, no_lifetime}
use Rattle.crl_stages.specs.declared.row.Row.{Row}
use Rattle.crl_stages.specs.RowLifetimes.{row_lifetime, RowFits}

-- the number of nodes, a row for each serial that was used, and how many more serials there is place for
pub record StagesState : Type 0 where
  pub nodes : ℕ
  pub rows : List Row
  pub spare : ℕ

-- the lifetime of a row, if there is one
abbrev pub lifetime_or_none : Option Row → Lifetime
lifetime_or_none None = no_lifetime
lifetime_or_none (Some row) = row_lifetime row

-- the lifetime at a place of the rows
abbrev pub lifetime_at : ℕ → List Row → Lifetime
lifetime_at n [] = no_lifetime
lifetime_at zero (row ∷ rows) = row_lifetime row
lifetime_at (suc n) (row ∷ rows) = lifetime_at n rows

abbrev pub lifetime_in : List Row → ℕ → Lifetime
lifetime_in rows serial = if serial == 0 then no_lifetime else lifetime_at (serial - 1) rows

-- the lifetimes by serial, from 1
abbrev pub lifetimes_of : StagesState → ℕ → Lifetime
lifetimes_of s = lifetime_in s.rows

-- what is true of the rows that are kept
pub record AreRows (nodes : ℕ) (rows : List Row) : Type 0 where
  pub few : nodes ≤ 64
  pub fit : All (RowFits nodes) rows

-- as many nodes, rows and places
pub record KeepsSize (old new : StagesState) : Type 0 where
  pub nodes : new.nodes ≡ old.nodes
  pub rows : length new.rows ≡ length old.rows
  pub spare : new.spare ≡ old.spare

-- one row more, in one of the places
pub record HasRowMore (old new : StagesState) : Type 0 where
  pub nodes : new.nodes ≡ old.nodes
  pub rows : length new.rows ≡ length old.rows + 1
  pub spare : new.spare + 1 ≡ old.spare
