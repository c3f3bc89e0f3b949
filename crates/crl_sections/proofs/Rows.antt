-- Sections that are taken out and put back.
use Rattle.std.proofs.Common.{◌≡◌, Bool, true, false, if◌then◌else◌, refl, ◌∙◌, ap}
use Rattle.std.specs.declared.option.Option.{Option}
use Rattle.std.specs.declared.option.Option.TheVariants.{None}
use Rattle.crl_model.specs.declared.name.Name.{Name}
use Rattle.crl_model.specs.Names.{name_eq, at_name}
use Rattle.crl_table.specs.Tables.{table_of}
use Rattle.crl_protocol.specs.Sections.{OpenSection}
use Rattle.crl_sections.specs.SectionsState.{SectionsState, HasSections}

pub twice : {X : Type 0} (f : Name → X) (name : Name) (v w : X) → at_name (at_name f name w) name v ≡ at_name f name v
twice {X} f name v w = λ i q. go (name_eq name q) (f q) i
  where
    go : (b : Bool) (x : X) → (if b then v else if b then w else x) ≡ (if b then v else x)
    go true x = refl
    go false x = refl

pub over_none : (name : Name) (r : Option OpenSection) (old mid new : SectionsState) → HasSections name None old mid → HasSections name r mid new → table_of new.rows ≡ at_name (table_of old.rows) name r
over_none name r old mid new g h = h.rows ∙ (ap (λ f. at_name f name r) g.rows ∙ twice _ name r None)
