-- The open sections of a node, by name.
use Rattle.std.specs.Prelude.{ℕ, ◌≡◌, ◌<◌, ◌-◌, ◌^◌, List, Bool, true, false, length}
use Rattle.std.specs.Option.{option_map_or}
use Rattle.std.specs.declared.option.Option.{Option}
use Rattle.std.specs.declared.option.Option.TheVariants.{None, Some}
use Rattle.crl_model.specs.declared.name.Name.{Name}
use Rattle.crl_model.specs.Guards.{Guard}
use Rattle.crl_model.specs.declared.directory.Section.{Section}
use Rattle.crl_model.specs.declared.directory.Section.TheVariants.{Closed, Reading, Writing}
use Rattle.crl_model.specs.Names.{at_name}
use Rattle.crl_table.specs.Tables.{table_of, has_place, weight}
use Rattle.crl_protocol.specs.Home.{is_reading}
use Rattle.crl_protocol.specs.Sections.{Sections, OpenSection, count_of}
use Rattle.crl_sections.specs.OpenSections.{guards_in, guards_of, shows_to, is_written_by}

-- the names that have a place, each with its open sections or none; and the last number given
pub record SectionsState : Type 0 where
  pub rows : List (Name × Option OpenSection)
  pub last : ℕ

abbrev pub sections_of : SectionsState → Sections
sections_of s = record { records = table_of s.rows; last = s.last }

-- how many guards are out
abbrev pub guards : SectionsState → ℕ
guards s = weight guards_of s.rows

-- The sections of the name are these, or none, and all else is as it was.
pub record HasSections (name : Name) (r : Option OpenSection) (old new : SectionsState) : Type 0 where
  pub last : new.last ≡ old.last
  pub rows : table_of new.rows ≡ at_name (table_of old.rows) name r
  pub places : has_place new.rows ≡ has_place old.rows

-- if there is a row, a section of it is open, and the number of its read sections fits a word
abbrev pub IsOpenRow : Option OpenSection → Type 0
IsOpenRow None = Unit {0}
IsOpenRow (Some r) = (0 < guards_in r.section) × (count_of r.section < 2 ^ 32)

-- so many guards are out, and each row has an open section
pub record AreCounted (out : ℕ) (rows : List (Name × Option OpenSection)) : Type 0 where
  pub counted : out ≡ weight guards_of rows
  pub known : (name : Name) → IsOpenRow (table_of rows name)

-- there is no row of a region of which no section is open
abbrev pub IsAbsentIfClosed : Section → Option OpenSection → Type 0
IsAbsentIfClosed Closed row = row ≡ None
IsAbsentIfClosed (Reading count) row = Unit {0}
IsAbsentIfClosed Writing row = Unit {0}

-- A section may begin: to write where none is open, to read also inside read sections of as many bytes.
abbrev pub CanBegin : Bool → List ℕ → Option OpenSection → Type 0
CanBegin write bytes None = Unit {0}
CanBegin true bytes (Some r) = ⊥
CanBegin false bytes (Some r) = (is_reading r.section ≡ true) × (count_of r.section < 2 ^ 32 - 1) × (length bytes ≡ length r.bytes)

-- The guard is the one of a section that is open, with the bytes that a read section shows, or with as many
-- bytes as a write section began with.
abbrev pub fits_reading : Guard → Sections → Bool
fits_reading guard s = option_map_or (shows_to guard) (s.records guard.name) false

abbrev pub fits_writing : Guard → Sections → Bool
fits_writing guard s = option_map_or (is_written_by guard) (s.records guard.name) false
