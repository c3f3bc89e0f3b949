-- What a node has of another node's region, beside the region's table at its home.
use Rattle.std.proofs.Common.{◌≡◌, ◌≢◌, ℕ, ◌==◌, Some, List, ap, sym, ◌∙◌, subst}
use Rattle.std.proofs.lemmas.Bool.{cond-false, eq-eqb, ne_eqb}
use Rattle.crl_model.specs.declared.name.Name.{Name}
use Rattle.crl_model.specs.declared.event.Event.{Event}
use Rattle.crl_protocol.specs.Home.{Home}
use Rattle.crl_protocol.specs.Remote.{Remote}
use Rattle.crl_protocol.specs.Sections.{section_at}
use Rattle.crl_protocol.specs.World.{World, new_world, world_of, IsRunFrom}
use Rattle.crl_deeds.specs.Counts.{Known}
use Rattle.crl_deeds.proofs.Laws.{not_mine}
use Rattle.crl_flight.specs.Flight.{messages_of}
use Rattle.crl_coherence.specs.Pairs.{SectionFits}
use Rattle.crl_regions.specs.View.{side, table_of, table_or_blank, array_of}
use Rattle.crl_regions.proofs.Laws.{regions_in_runs, sections_are_tables, sizes_known}

-- the region is there with this side's size
pub record SizeThere (q : Name) (w : World) (size : ℕ) : Type 0 where
  pub table : Home
  pub there : table_of q w ≡ Some table
  pub same : table.size ≡ size

-- A node's side of a region: the region is there in its size, the sections are those that the node has open, and a
-- section is open only over a copy that suffices.
pub record SideFits (q : Name) (w : World) (i : ℕ) (r : Remote) : Type 0 where
  pub size : SizeThere q w r.size
  pub sections : r.here ≡ section_at q (w.nodes i).sections
  pub copy : SectionFits r.here r.copy r.asking

abbrev pub SidesFit : World → Type 0
SidesFit w = (i : ℕ) (q : Name) (r : Remote) → (w.nodes i).remotes q ≡ Some r → SideFits q w i r

pub sides_in_runs : (count capacity : ℕ) (run : List Event) → IsRunFrom (new_world count capacity) run → Known (world_of count capacity run) → SidesFit (world_of count capacity run)
sides_in_runs count capacity run r k i q x e =
    let w = world_of count capacity run in
    let h = regions_in_runs count capacity run r in
    let s = (sizes_known count capacity run r).record_of i q x e in
    let z : SizeThere q w x.size = record { table = s.0; there = s.1; same = s.2 } in
    let other = not_mine i (w.nodes i) q x e (k.fits i) in
    let away : i ≢ q.home = λ y. (let same : q.home ≡ (w.nodes i).me = sym y ∙ sym (k.fits i).me in let yes = eq-eqb q.home (w.nodes i).me same in cc) in
    let pair = (h.1.coherent q z.table z.there).loose.pairs i away in
    let blank = (table_or_blank (table_of q w)).size in
    let noted = sections_are_tables count capacity run r i q (array_of q count capacity run) (messages_of h.0) in
    let here : (side blank ((w.nodes i).remotes q)).here ≡ section_at q (w.nodes i).sections = sym (cond-false (i == q.home) _ _ (ne_eqb i q.home away)) ∙ noted in
    record {
      size = z;
      sections = sym (ap (λ o. (side blank o).here) e) ∙ here;
      copy = subst (λ o. SectionFits (side blank o).here (side blank o).copy (side blank o).asking) e pair.section;
    }
