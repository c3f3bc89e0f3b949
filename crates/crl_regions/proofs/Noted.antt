-- What a node notes of a region's section is what the region's tables say, and the bytes there are those of the region.
use Rattle.std.proofs.Common.{◌≡◌, ◌≢◌, ℕ, ◌==◌, Bool, true, false, None, Some, Option, List, [], if◌then◌else◌, refl, ap, sym, ◌∙◌, subst}
use Rattle.std.proofs.lemmas.Bool.{cond-false, eqb-true, eqb-false, ne_eqb}
use Rattle.crl_model.specs.declared.name.Name.{Name}
use Rattle.crl_model.specs.declared.directory.Section.TheVariants as section
use Rattle.crl_model.specs.declared.message.Message.{Message}
use Rattle.crl_protocol.specs.Home.{Home}
use Rattle.crl_protocol.specs.Remote.{Remote}
use Rattle.crl_protocol.specs.Sections as sections
use Rattle.crl_protocol.specs.Sectioning.{copy_bytes}
use Rattle.crl_protocol.specs.Node.{Node, is_mine, home_of}
use Rattle.crl_protocol.specs.World.{World}
use Rattle.crl_flight.specs.Flight.{Under}
use Rattle.crl_coherence.specs.Coherent.{node_section, bytes_at_node}
use Rattle.crl_safety.specs.Tests.{HasTable}
use Rattle.crl_regions.specs.View.{side, table_of, table_or_blank, view}
use Rattle.crl_regions.proofs.Acts.{expected}
use Rattle.crl_regions.proofs.AllNodesHold.{AllNodesHold, table_at}

-- the bytes that a node has of a region, at its table or its side
abbrev pub bytes_in : Option Home → Option Remote → List ℕ
bytes_in (Some h) r = h.bytes
bytes_in None (Some r) = copy_bytes r.copy
bytes_in None None = []

abbrev pub bytes_here : Node → Name → List ℕ
bytes_here n q = bytes_in (home_of n q) (n.remotes q)

own_section : (o : Option Home) (r : Option Remote) → ((x : Remote) → r ≡ Some x → (h : Home) × (o ≡ Some h)) → expected o r ≡ (table_or_blank o).mine
own_section (Some h) r f = refl
own_section None None f = refl
own_section None (Some x) f = absurd (let t = (f x refl).1 in cc)

side_section : (size : ℕ) (r : Option Remote) → expected None r ≡ (side size r).here
side_section size None = refl
side_section size (Some r) = refl

pub section_noted : (w : World) (arrays : Name → List ℕ) (us : List Under) (array : List ℕ) (messages : List Message) (i : ℕ) (q : Name) → AllNodesHold w arrays us
    → node_section q.home (view q array messages w) i ≡ sections.section_at q (w.nodes i).sections
section_noted w arrays us array messages i q k = go (i == q.home) refl
  where
    g : Home
    g = table_or_blank (table_of q w)

    go : (b : Bool) → (i == q.home) ≡ b → (if b then g.mine else (side g.size ((w.nodes i).remotes q)).here) ≡ sections.section_at q (w.nodes i).sections
    go true e =
        let at_i : i ≡ q.home = eqb-true i q.home e in
        subst (λ j. g.mine ≡ sections.section_at q (w.nodes j).sections) (sym at_i)
        (sym (own_section (table_of q w) ((w.nodes q.home).remotes q) (λ x f. let s = k.sizes q.home q x f in (s.0, s.1))) ∙ k.agrees q.home q)
    go false e =
        let none : home_of (w.nodes i) q ≡ None = cond-false (is_mine (w.nodes i) q) _ _ (ne_eqb q.home (w.nodes i).me (λ x. eqb-false i q.home e (sym (k.fits i).me ∙ sym x))) in
        sym (side_section g.size ((w.nodes i).remotes q)) ∙ sym (ap (λ o. expected o ((w.nodes i).remotes q)) none) ∙ k.agrees i q

-- the same of the bytes
own_bytes : (o : Option Home) (r : Option Remote) → ((x : Remote) → r ≡ Some x → (h : Home) × (o ≡ Some h)) → bytes_in o r ≡ (table_or_blank o).bytes
own_bytes (Some h) r f = refl
own_bytes None None f = refl
own_bytes None (Some x) f = absurd (let t = (f x refl).1 in cc)

side_bytes : (size : ℕ) (r : Option Remote) → bytes_in None r ≡ copy_bytes (side size r).copy
side_bytes size None = refl
side_bytes size (Some r) = refl

pub bytes_noted : (w : World) (arrays : Name → List ℕ) (us : List Under) (array : List ℕ) (messages : List Message) (i : ℕ) (q : Name) → AllNodesHold w arrays us
    → bytes_here (w.nodes i) q ≡ bytes_at_node q.home (view q array messages w) i
bytes_noted w arrays us array messages i q k = go (i == q.home) refl
  where
    g : Home
    g = table_or_blank (table_of q w)

    go : (b : Bool) → (i == q.home) ≡ b → bytes_here (w.nodes i) q ≡ (if b then g.bytes else copy_bytes (side g.size ((w.nodes i).remotes q)).copy)
    go true e =
        let at_i : i ≡ q.home = eqb-true i q.home e in
        subst (λ j. bytes_here (w.nodes j) q ≡ g.bytes) (sym at_i) (own_bytes (table_of q w) ((w.nodes q.home).remotes q) (λ x f. let s = k.sizes q.home q x f in (s.0, s.1)))
    go false e =
        let none : home_of (w.nodes i) q ≡ None = cond-false (is_mine (w.nodes i) q) _ _ (ne_eqb q.home (w.nodes i).me (λ x. eqb-false i q.home e (sym (k.fits i).me ∙ sym x))) in
        ap (λ o. bytes_in o ((w.nodes i).remotes q)) none ∙ side_bytes g.size ((w.nodes i).remotes q)

-- where a section is open, the region is there
pub open_table : (w : World) (arrays : Name → List ℕ) (us : List Under) (i : ℕ) (q : Name) → AllNodesHold w arrays us → sections.section_at q (w.nodes i).sections ≢ section.Closed → HasTable (table_of q w)
open_table w arrays us i q k opened = go (home_of (w.nodes i) q) ((w.nodes i).remotes q) refl refl
  where
    go : (o : Option Home) (r : Option Remote) → home_of (w.nodes i) q ≡ o → (w.nodes i).remotes q ≡ r → HasTable (table_of q w)
    go (Some h) r e f = (h, (table_at w arrays us i q h k e).1)
    go None (Some x) e f = let s = k.sizes i q x f in (s.0, s.1)
    go None None e f = absurd (opened (sym (k.agrees i q) ∙ ap (λ o. expected o ((w.nodes i).remotes q)) e ∙ ap (λ o. expected None o) f))
