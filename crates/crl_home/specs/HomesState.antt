-- The regions whose home is one node.
use Rattle.std.specs.Prelude.{ℕ, ◌+◌, ◌-◌, ◌<◌, ◌≤◌, ◌≡◌, ◌^◌, Bool, List, [], ◌∷◌, ◌++◌, length}
use Rattle.std.specs.declared.option.Option.{Option}
use Rattle.std.specs.declared.option.Option.TheVariants.{None, Some}
use Rattle.crl_model.specs.declared.name.Name.{Name}
use Rattle.crl_model.specs.declared.directory.Asked.{Asked}
use Rattle.crl_protocol.specs.Places.{put}
use Rattle.crl_protocol.specs.Home.{Home, HomeStep, new_home, home_takes_ask, home_takes_return, home_takes_release, home_starts, home_ends_read, home_ends_write}
use Rattle.crl_protocol.specs.Node.{at_serial}
use Rattle.crl_home.specs.Debts.{owed}

-- the node, the number of nodes, its regions by serial from 1, and how many more serials there is place for
pub record HomesState : Type 0 where
  pub me : ℕ
  pub nodes : ℕ
  pub homes : List (Option Home)
  pub spare : ℕ

abbrev pub owed_of : Option Home → ℕ
owed_of None = 0
owed_of (Some h) = owed h

-- how many pieces all of them may have to post
abbrev pub owed_in : List (Option Home) → ℕ
owed_in [] = 0
owed_in (h ∷ homes) = owed_of h + owed_in homes

-- each has a place for a copy of each node
abbrev pub HasNodes : ℕ → Option Home → Type 0
HasNodes nodes None = Unit {0}
HasNodes nodes (Some h) = length h.listed ≡ nodes

abbrev pub HaveNodes : ℕ → List (Option Home) → Type 0
HaveNodes nodes [] = Unit {0}
HaveNodes nodes (h ∷ homes) = HasNodes nodes h × HaveNodes nodes homes

-- what is true of what is kept of them: what they owe, and the numbers
pub record AreHomes (me nodes : ℕ) (homes : List (Option Home)) (owed : ℕ) : Type 0 where
  pub node : me < nodes
  pub few : nodes ≤ 64
  pub serials : length homes < 2 ^ 32
  pub copies : HaveNodes nodes homes
  pub sum : owed ≡ owed_in homes

-- the table at a place
abbrev pub table_or : Option Home → Home
table_or None = new_home 0 0
table_or (Some h) = h

-- the table of the region with this name
abbrev pub table_at : Name → List (Option Home) → Home
table_at name homes = table_or (at_serial name.serial homes)

-- the size of the region with this name, if there is one
abbrev pub size_or_none : Option Home → Option ℕ
size_or_none None = None
size_or_none (Some h) = Some h.size

-- the name that the next create gives
abbrev pub next_name : HomesState → Name
next_name s = record { home = s.me; serial = length s.homes + 1 }

-- one serial more, of a region or of none
abbrev pub with_serial : Option Home → HomesState → HomesState
with_serial h s = record s { homes = s.homes ++ h ∷ []; spare = s.spare - 1 }

-- what a step of one region's table leaves
abbrev pub with_table : Name → Home → HomesState → HomesState
with_table name h s = record s { homes = put (name.serial - 1) (Some h) s.homes }

-- the steps of the table of the region with this name
abbrev pub ask_step : Name → Asked → HomesState → HomeStep
ask_step name ask s = home_takes_ask s.me ask (table_at name s.homes)

abbrev pub return_step : Name → ℕ → Option (List ℕ) → HomesState → HomeStep
return_step name from bytes s = home_takes_return s.me from bytes (table_at name s.homes)

abbrev pub release_step : Name → ℕ → ℕ → List ℕ → HomesState → HomeStep
release_step name from version bytes s = home_takes_release s.me from version bytes (table_at name s.homes)

abbrev pub start_step : Name → Bool → HomesState → HomeStep
start_step name write s = home_starts s.me write (table_at name s.homes)

abbrev pub end_read_step : Name → HomesState → HomeStep
end_read_step name s = home_ends_read s.me (table_at name s.homes)

abbrev pub end_write_step : Name → List ℕ → HomesState → HomeStep
end_write_step name bytes s = home_ends_write s.me bytes (table_at name s.homes)
