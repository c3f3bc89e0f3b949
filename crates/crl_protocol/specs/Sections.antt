-- The sections that are open at a node, with the bytes that each began with.
use Rattle.std.specs.Prelude.{ℕ, ◌+◌, Bool, true, false, if◌then◌else◌, List, []}
use Rattle.std.specs.declared.option.Option.{Option}
use Rattle.std.specs.declared.option.Option.TheVariants.{None, Some}
use Rattle.crl_model.specs.declared.name.Name.{Name}
pub use Rattle.crl_model.specs.Guards.{Guard}
use Rattle.crl_model.specs.declared.directory.Section.{Section}
use Rattle.crl_model.specs.declared.directory.Section.TheVariants.{Closed, Reading, Writing}
use Rattle.crl_model.specs.Names.{at_name}
use Rattle.crl_protocol.specs.Home.{one_section_more, one_section_less}

-- The sections of one region. Read sections inside each other have one number.
pub record OpenSection : Type 0 where
  pub section : Section
  pub number : ℕ
  pub bytes : List ℕ

pub record Sections : Type 0 where
  pub records : Name → Option OpenSection
  -- the last number given
  pub last : ℕ

abbrev pub no_sections : Sections
no_sections = record { records = λ name. None; last = 0 }

abbrev pub section_of : Option OpenSection → Section
section_of None = Closed
section_of (Some r) = r.section

abbrev pub section_at : Name → Sections → Section
section_at name s = section_of (s.records name)

abbrev pub section_bytes : Option OpenSection → List ℕ
section_bytes None = []
section_bytes (Some r) = r.bytes

abbrev pub bytes_at : Name → Sections → List ℕ
bytes_at name s = section_bytes (s.records name)

abbrev pub count_of : Section → ℕ
count_of Closed = 0
count_of (Reading count) = count
count_of Writing = 0

abbrev pub is_writing : Section → Bool
is_writing Closed = false
is_writing (Reading count) = false
is_writing Writing = true

-- A section begins with these bytes: a read section inside another, or one with the next number.
pub record SectionStart : Type 0 where
  pub sections : Sections
  pub number : ℕ

abbrev pub begins_anew : Name → Section → List ℕ → Sections → SectionStart
begins_anew name section bytes s = record {
  sections = record {
    records = at_name s.records name (Some (record { section = section; number = s.last + 1; bytes = bytes }));
    last = s.last + 1;
  };
  number = s.last + 1;
}

abbrev pub begins_in : Name → OpenSection → Sections → SectionStart
begins_in name r s = record {
  sections = record s { records = at_name s.records name (Some (record r { section = one_section_more r.section })) };
  number = r.number;
}

abbrev pub begins_to_read : Name → Option OpenSection → List ℕ → Sections → SectionStart
begins_to_read name None bytes s = begins_anew name (Reading 1) bytes s
begins_to_read name (Some r) bytes s = begins_in name r s

unfoldable pub section_begins : Bool → Name → List ℕ → Sections → SectionStart
section_begins write name bytes s =
    if write then begins_anew name Writing bytes s else begins_to_read name (s.records name) bytes s

-- The newest section of the region ends.
abbrev pub ends_over : Name → Option OpenSection → Sections → Sections
ends_over name None s = s
ends_over name (Some r) s = record s {
  records = at_name s.records name (elim (one_section_less r.section) [
    | Closed ↦ None
    | Reading count ↦ Some (record r { section = Reading count })
    | Writing ↦ None
  ]);
}

unfoldable pub section_ends : Name → Sections → Sections
section_ends name s = ends_over name (s.records name) s
