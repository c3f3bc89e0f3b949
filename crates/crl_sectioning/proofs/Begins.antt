-- A section may begin that may open.
use Rattle.std.proofs.Common.{◌≡◌, ◌∙◌, ℕ, Bool, true, false, List, length}
use Rattle.std.specs.declared.option.Option.{Option}
use Rattle.std.specs.declared.option.Option.TheVariants.{None, Some}
use Rattle.crl_protocol.specs.Sections.{OpenSection}
use Rattle.crl_sections.specs.SectionsState.{CanBegin}
use Rattle.crl_desk.specs.declared.kit.SectionKit.{SectionKit}
use Rattle.crl_desk.specs.Kits.{HasPapers}
use Rattle.crl_sectioning.specs.Starts.{PapersFit, SectionMayOpen}

pub may_begin : (write : Bool) (bytes : List ℕ) (size : ℕ) (row : Option OpenSection) → SectionMayOpen write size row → length bytes ≡ size → CanBegin write bytes row
may_begin write bytes size None m sized = tt
may_begin true bytes size (Some s) m sized = absurd m
may_begin false bytes size (Some s) m sized = (m.0, m.1, sized ∙ m.2)

-- the papers of a kit have room for so many bytes
pub papers_fit : (size same : ℕ) (kit : SectionKit) → HasPapers same kit → size ≡ same → PapersFit size kit.guard kit.began kit.end
papers_fit size same kit h e = rw e (h.guard, h.began, h.end)
