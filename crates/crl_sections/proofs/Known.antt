-- What is known of a row.
use Rattle.std.proofs.Common.{◌<◌, ◌^◌, refl, arith}
use Rattle.std.specs.declared.option.Option.{Option}
use Rattle.std.specs.declared.option.Option.TheVariants.{None, Some}
use Rattle.crl_model.specs.declared.directory.Section.{Section}
use Rattle.crl_model.specs.declared.directory.Section.TheVariants.{Closed, Reading, Writing}
use Rattle.crl_protocol.specs.Sections.{OpenSection, count_of, section_of}
use Rattle.crl_sections.specs.OpenSections.{guards_in}
use Rattle.crl_sections.specs.SectionsState.{IsOpenRow, IsAbsentIfClosed}

pub known_absent : (row : Option OpenSection) → IsOpenRow row → IsAbsentIfClosed (section_of row) row
known_absent None h = refl
known_absent (Some r) h = go r r.section h.0
  where
    go : (r : OpenSection) (s : Section) → 0 < guards_in s → IsAbsentIfClosed s (Some r)
    go r Closed some = grind arith
    go r (Reading count) some = tt
    go r Writing some = tt

pub known_count : (row : Option OpenSection) → IsOpenRow row → count_of (section_of row) < 2 ^ 32
known_count None h = omega arith
known_count (Some r) h = h.1
