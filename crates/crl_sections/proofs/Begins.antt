-- A section begins.
use Rattle.std.proofs.Common.{◌≡◌, ◌+◌, ℕ, Bool, true, false, List, refl, arith, ◌∙◌, ap}
use Rattle.std.specs.declared.option.Option.{Option}
use Rattle.std.specs.declared.option.Option.TheVariants.{None, Some}
use Rattle.crl_model.specs.declared.name.Name.{Name}
use Rattle.crl_model.specs.declared.directory.Section.{Section}
use Rattle.crl_model.specs.declared.directory.Section.TheVariants.{Closed, Reading, Writing}
use Rattle.crl_model.specs.Names.{at_name}
use Rattle.crl_table.specs.Tables.{table_of}
use Rattle.crl_protocol.specs.Home.{one_section_more}
use Rattle.crl_protocol.specs.Sections.{OpenSection, section_begins}
use Rattle.crl_sections.specs.OpenSections.{guards_in, guards_of, first_section, with_read}
use Rattle.crl_sections.specs.SectionsState.{SectionsState, sections_of, HasSections, CanBegin}
use Rattle.crl_sections.proofs.Rows.{twice, over_none}

-- inside others a section begins to read
pub reads_inside : (write : Bool) (bytes : List ℕ) (r : OpenSection) → CanBegin write bytes (Some r) → write ≡ false
reads_inside true bytes r h = grind arith
reads_inside false bytes r h = refl

begins_in_to : (name : Name) (write : Bool) (bytes : List ℕ) (old new : SectionsState) (r : OpenSection) → table_of old.rows name ≡ Some r → write ≡ false → new.last ≡ old.last
    → table_of new.rows ≡ at_name (table_of old.rows) name (Some (with_read r))
    → record { sections = sections_of new; number = r.number } ≡ section_begins write name bytes (sections_of old)
unfolding section_begins
begins_in_to name write bytes old new r e w l f = rw (w, e, f, l) refl

begins_anew_to : (name : Name) (write : Bool) (bytes : List ℕ) (old new : SectionsState) → table_of old.rows name ≡ None → new.last ≡ old.last + 1
    → table_of new.rows ≡ at_name (table_of old.rows) name (Some (first_section write (old.last + 1) bytes))
    → record { sections = sections_of new; number = old.last + 1 } ≡ section_begins write name bytes (sections_of old)
unfolding section_begins
begins_anew_to name true bytes old new e l f = rw (f, l) refl
begins_anew_to name false bytes old new e l f = rw (e, f, l) refl

pub begins_inside : (name : Name) (write : Bool) (bytes : List ℕ) (old mid new : SectionsState) (r : OpenSection) → table_of old.rows name ≡ Some r → CanBegin write bytes (Some r)
    → HasSections name None old mid → HasSections name (Some (with_read r)) mid new
    → record { sections = sections_of new; number = r.number } ≡ section_begins write name bytes (sections_of old)
begins_inside name write bytes old mid new r e m g h =
    begins_in_to name write bytes old new r e (reads_inside write bytes r m) (h.last ∙ g.last) (over_none name (Some (with_read r)) old mid new g h)

pub begins_first : (name : Name) (write : Bool) (bytes : List ℕ) (old mid next new : SectionsState) (number : ℕ) → table_of old.rows name ≡ None
    → HasSections name None old mid → next.rows ≡ mid.rows → next.last ≡ mid.last + 1 → number ≡ mid.last + 1
    → HasSections name (Some (first_section write number bytes)) next new
    → record { sections = sections_of new; number = number } ≡ section_begins write name bytes (sections_of old)
begins_first name write bytes old mid next new number e g nr nl n h =
    let m : number ≡ old.last + 1 = n ∙ ap (λ x. x + 1) g.last in
    let l : new.last ≡ old.last + 1 = h.last ∙ (nl ∙ ap (λ x. x + 1) g.last) in
    let f : table_of new.rows ≡ at_name (table_of old.rows) name (Some (first_section write number bytes)) =
    h.rows ∙ (ap (λ t. at_name (table_of t) name (Some (first_section write number bytes))) nr ∙ (ap (λ t. at_name t name (Some (first_section write number bytes))) g.rows ∙ twice (table_of old.rows) name (Some (first_section write number bytes)) None)) in
    rw m (begins_anew_to name write bytes old new e l (rw m at f))

pub one_guard_more : (write : Bool) (bytes : List ℕ) (r : OpenSection) → CanBegin write bytes (Some r) → guards_of (with_read r) ≡ guards_of r + 1
one_guard_more write bytes r h = go write r.section h
  where
    go : (w : Bool) (s : Section) → CanBegin w bytes (Some (record r { section = s })) → guards_in (one_section_more s) ≡ guards_in s + 1
    go true s h = grind arith
    go false Closed h = grind arith
    go false (Reading count) h = refl
    go false Writing h = grind arith

pub first_guard : (write : Bool) (number : ℕ) (bytes : List ℕ) → guards_of (first_section write number bytes) ≡ 1
first_guard true number bytes = refl
first_guard false number bytes = refl
