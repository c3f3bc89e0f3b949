-- The open sections of one region.
use Rattle.std.specs.Prelude.{ℕ, ◌≡◌, ◌==◌, ◌≤◌, ◌<◌, ◌-◌, ◌^◌, ◌&&◌, Bool, true, false, List, length, bytes_eq, if◌then◌else◌}
use Rattle.std.specs.declared.option.Option.{Option}
use Rattle.std.specs.declared.option.Option.TheVariants.{None, Some}
use Rattle.crl_model.specs.Guards.{Guard}
use Rattle.crl_model.specs.declared.directory.Section.{Section}
use Rattle.crl_model.specs.declared.directory.Section.TheVariants.{Closed, Reading, Writing}
use Rattle.crl_protocol.specs.Home.{is_reading, one_section_more, one_section_less}
use Rattle.crl_protocol.specs.Sections.{OpenSection, count_of, is_writing}

-- how many guards are out
abbrev pub guards_in : Section → ℕ
guards_in Closed = 0
guards_in (Reading count) = count
guards_in Writing = 1

abbrev pub guards_of : OpenSection → ℕ
guards_of r = guards_in r.section

-- a section is open, and the paper has room for its bytes
pub record HasPaper (section : Section) (bytes : List ℕ) (paper : ℕ) : Type 0 where
  pub some : 0 < guards_in section
  pub room : length bytes ≤ paper

-- a section that begins where none is open
abbrev pub first_section : Bool → ℕ → List ℕ → OpenSection
first_section write number bytes = record { section = if write then Writing else Reading 1; number = number; bytes = bytes }

-- the sections, with a read section more
abbrev pub with_read : OpenSection → OpenSection
with_read r = record r { section = one_section_more r.section }

-- the sections that are left when one ends
abbrev pub left_open : OpenSection → Option OpenSection
left_open r = elim (one_section_less r.section) [
  | Closed ↦ None
  | Reading count ↦ Some (record r { section = Reading count })
  | Writing ↦ None
]

-- the guard is one of these read sections, with the bytes that they show
abbrev pub shows_to : Guard → OpenSection → Bool
shows_to guard r = is_reading r.section && ((r.number == guard.number) && bytes_eq r.bytes guard.bytes)

-- the guard is this write section's, with as many bytes as it began with
abbrev pub is_written_by : Guard → OpenSection → Bool
is_written_by guard r = is_writing r.section && ((r.number == guard.number) && (length r.bytes == length guard.bytes))
