-- A section ends.
use Rattle.std.proofs.Common.{◌≡◌, refl, ◌∙◌}
use Rattle.std.specs.declared.option.Option.{Option}
use Rattle.std.specs.declared.option.Option.TheVariants.{None, Some}
use Rattle.crl_model.specs.declared.name.Name.{Name}
use Rattle.crl_model.specs.Names.{at_name}
use Rattle.crl_protocol.specs.Sections.{OpenSection, section_ends}
use Rattle.crl_table.specs.Tables.{table_of}
use Rattle.crl_sections.specs.OpenSections.{left_open}
use Rattle.crl_sections.specs.SectionsState.{SectionsState, sections_of, HasSections}
use Rattle.crl_sections.proofs.Rows.{over_none}

ends_to : (name : Name) (old new : SectionsState) (r : OpenSection) (rest : Option OpenSection) → table_of old.rows name ≡ Some r → left_open r ≡ rest → new.last ≡ old.last
    → table_of new.rows ≡ at_name (table_of old.rows) name rest
    → sections_of new ≡ section_ends name (sections_of old)
unfolding section_ends
ends_to name old new r rest e a l f = rw (e, f, l, ← a) refl

pub ends_last : (name : Name) (old new : SectionsState) (r : OpenSection) → table_of old.rows name ≡ Some r → left_open r ≡ None
    → HasSections name None old new
    → sections_of new ≡ section_ends name (sections_of old)
ends_last name old new r e a g = ends_to name old new r None e a g.last g.rows

pub ends_inside : (name : Name) (old mid new : SectionsState) (r rest : OpenSection) → table_of old.rows name ≡ Some r → left_open r ≡ Some rest
    → HasSections name None old mid → HasSections name (Some rest) mid new
    → sections_of new ≡ section_ends name (sections_of old)
ends_inside name old mid new r rest e a g h = ends_to name old new r (Some rest) e a (h.last ∙ g.last) (over_none name (Some rest) old mid new g h)
