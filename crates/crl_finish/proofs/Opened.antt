-- Which sections are open at a node, by where it is in its script.
use Rattle.std.proofs.Common.{◌≡◌, ℕ, ◌+◌, ◌==◌, Bool, true, false, if◌then◌else◌, List, None, Some, Option, refl, ap, sym, ◌∙◌, subst, arith}
use Rattle.std.proofs.Math.Logic.{◌⊎◌, inl, inr}
use Rattle.std.proofs.lemmas.Bool.{ne_eqb}
use Rattle.crl_model.specs.declared.name.Name.{Name}
use Rattle.crl_model.specs.declared.call.Call.{Call}
use Rattle.crl_model.specs.declared.call.Refusal.TheVariants.{NotMapped}
use Rattle.crl_model.specs.declared.directory.Section.{Section}
use Rattle.crl_model.specs.declared.directory.Section.TheVariants.{Closed, Reading, Writing}
use Rattle.crl_protocol.specs.Home.{one_section_more, one_section_less}
use Rattle.crl_protocol.specs.Lifetimes.{Mapping}
use Rattle.crl_protocol.specs.Sections.{OpenSection, Sections, section_of, section_at, begins_to_read, section_begins, ends_over, section_ends}
use Rattle.crl_protocol.specs.Node.{Node, map_count}
use Rattle.crl_protocol.specs.Verdict.{else_if, refuse_if, of_end, verdict}
use Rattle.crl_deeds.specs.Counts.{Counts}
use Rattle.crl_deeds.specs.NodeFacts.{RecordFits}
use Rattle.crl_deeds.proofs.Laws.{other_name, by_name}
use Rattle.crl_finish.specs.Unnested.{Within, Outside, Inside}
use Rattle.crl_finish.proofs.Effects.{EndsAs, ends_read, ends_write}

-- Outside all are closed; inside a section none but that is open, once. It may have been refused, or be waited for.
abbrev pub section_to : Bool → Section
section_to write = if write then Writing else Reading 1

abbrev pub MayBe : Within → Name → Section → Type 0
MayBe Outside q s = s ≡ Closed
MayBe (Inside write name) q s = (s ≡ Closed) ⊎ ((q ≡ name) × (s ≡ section_to write))

abbrev pub AreWithin : Within → Sections → Type 0
AreWithin w s = (q : Name) → MayBe w q (section_at q s)

pub closed_within : (w : Within) (s : Sections) → AreWithin Outside s → AreWithin w s
closed_within Outside s h = h
closed_within (Inside write name) s h = λ q. inl (h q)

-- a section opens where all are closed
pub opened_within : (write : Bool) (name : Name) (bytes : List ℕ) (s : Sections) → AreWithin Outside s → AreWithin (Inside write name) (section_begins write name bytes s).sections
unfolding section_begins
opened_within true name bytes s h =
    by_name name (λ b q. MayBe (Inside true name) q (section_of (if b then Some (record { section = Writing; number = s.last + 1; bytes = bytes }) else s.records q))) (inr (refl, refl)) (λ q w. inl (h q))
opened_within false name bytes s h = go (s.records name) refl
  where
    go : (o : Option OpenSection) → s.records name ≡ o → AreWithin (Inside false name) (begins_to_read name o bytes s).sections
    go None e =
        by_name name (λ b q. MayBe (Inside false name) q (section_of (if b then Some (record { section = Reading 1; number = s.last + 1; bytes = bytes }) else s.records q))) (inr (refl, refl)) (λ q w. inl (h q))
    go (Some r) e =
        let was : r.section ≡ Closed = sym (ap section_of e) ∙ h name in
        by_name name (λ b q. MayBe (Inside false name) q (section_of (if b then Some (record r { section = one_section_more r.section }) else s.records q)))
        (inr (refl, ap one_section_more was)) (λ q w. inl (h q))

-- the section ends
abbrev less : OpenSection → Section → Option OpenSection
less r s = elim s [ Closed ↦ None | Reading count ↦ Some (record r { section = Reading count }) | Writing ↦ None ]

last_ends : (write : Bool) (r : OpenSection) → section_of (less r (one_section_less (section_to write))) ≡ Closed
last_ends true r = refl
last_ends false r = refl

ends_none : (write : Bool) (name : Name) (r : OpenSection) (x : Section) → MayBe (Inside write name) name x → section_of (less r (one_section_less x)) ≡ Closed
ends_none write name r x (inl e) = ap (λ y. section_of (less r (one_section_less y))) e
ends_none write name r x (inr e) = ap (λ y. section_of (less r (one_section_less y))) e.1 ∙ last_ends write r

pub others_closed : (write : Bool) (name q : Name) (x : Section) → (q ≡ name → x ≡ Closed) → MayBe (Inside write name) q x → x ≡ Closed
others_closed write name q x h (inl e) = e
others_closed write name q x h (inr e) = h e.0

pub ended_within : (write : Bool) (name : Name) (s : Sections) → AreWithin (Inside write name) s → AreWithin Outside (section_ends name s)
unfolding section_ends
ended_within write name s h = go (s.records name) refl
  where
    go : (o : Option OpenSection) → s.records name ≡ o → AreWithin Outside (ends_over name o s)
    go None e = λ q. others_closed write name q (section_at q s) (λ same. ap (λ p. section_at p s) same ∙ ap section_of e) (h q)
    go (Some r) e =
        by_name name (λ b q. section_of (if b then less r (one_section_less r.section) else s.records q) ≡ Closed)
        (ends_none write name r r.section (subst (MayBe (Inside write name) name) (ap section_of e) (h name)))
        (λ q w. others_closed write name q (section_at q s) (λ same. absurd (other_name name q w (sym same))) (h q))

-- The end of a section that is open isn't refused: its region is mapped.
open_mapped : (write mine : Bool) (o : Option OpenSection) (m : Option Mapping) → RecordFits o m → Counts mine m → section_of o ≡ section_to write → (map_count m == 0) ≡ false
open_mapped true mine None m f c e = cc
open_mapped false mine None m f c e = cc
open_mapped write mine (Some r) None f c e = absurd f
open_mapped write mine (Some r) (Some m) f c e = let some = c.0 in ne_eqb m.count 0 (λ z. omega arith)

pub end_allowed : (n : Node) (c : Call) (write mine : Bool) (name : Name) → EndsAs c write name → RecordFits (n.sections.records name) (n.maps name) → Counts mine (n.maps name) → section_at name n.sections ≡ section_to write → verdict n c ≡ None
unfolding verdict
end_allowed n c write mine name (ends_read q) f k e =
    let mapped = open_mapped false mine (n.sections.records q) (n.maps q) f k e in
    ap (λ b. else_if (refuse_if b NotMapped) (of_end false (section_at q n.sections))) mapped ∙ ap (of_end false) e
end_allowed n c write mine name (ends_write q after) f k e =
    let mapped = open_mapped true mine (n.sections.records q) (n.maps q) f k e in
    ap (λ b. else_if (refuse_if b NotMapped) (of_end true (section_at q n.sections))) mapped ∙ ap (of_end true) e
