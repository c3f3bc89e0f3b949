-- Where a node has a region, and what is known of its sections there.
use Rattle.std.specs.Prelude.{◌≡◌, ◌<◌, ◌^◌, true, false}
use Rattle.std.specs.declared.option.Option.TheVariants.{None, Some}
use Rattle.crl_model.specs.declared.name.Name.{Name}
use Rattle.crl_protocol.specs.Sections.{Sections, section_at, count_of}
use Rattle.crl_protocol.specs.Node.{home_of, is_mine}
use Rattle.crl_table.specs.Tables.{table_of}
use Rattle.crl_sections.specs.SectionsState.{IsAbsentIfClosed}
use Rattle.crl_home.specs.HomesState.{table_at}
use Rattle.crl_remote.specs.RemotesState.{IsThere}
use Rattle.crl_desk.specs.declared.desk.Desk.{Desk}
use Rattle.crl_desk.specs.Desks.{state}
use Rattle.crl_sectioning.specs.declared.place.Place.{Place}
use Rattle.crl_sectioning.specs.declared.place.Place.TheVariants.{Home, Elsewhere, Nowhere}

abbrev pub IsAt : Place → Name → Desk → Type 0
IsAt Home name d = (is_mine (state d) name ≡ true) × (home_of (state d) name ≡ Some (table_at name d.homes.homes))
IsAt Elsewhere name d = (is_mine (state d) name ≡ false) × IsThere name d.remotes
IsAt Nowhere name d = (home_of (state d) name ≡ None) × (is_mine (state d) name ≡ false → table_of d.remotes.rows name ≡ None)

-- nothing is kept of a region of which no section is open, and the number of its read sections fits a word
abbrev pub AreKnown : Name → Sections → Type 0
AreKnown name s = IsAbsentIfClosed (section_at name s) (s.records name) × (count_of (section_at name s) < 2 ^ 32)
