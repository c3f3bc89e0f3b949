-- What each world of a run is known to be, as the mirror needs it.
use Rattle.std.proofs.Common.{◌≡◌, ℕ, ◌==◌, Bool, true, false, None, Some, Option, List, [], refl, ap, sym, ◌∙◌, subst}
use Rattle.std.proofs.lemmas.Bool.{cond-true, cond-false, eqb-true, eqb-false, eq-eqb, ne_eqb}
use Rattle.crl_model.specs.declared.name.Name.{Name}
use Rattle.crl_model.specs.declared.directory.Section.{Section}
use Rattle.crl_model.specs.declared.directory.Section.TheVariants as section
use Rattle.crl_model.specs.declared.event.Event.{Event}
use Rattle.crl_protocol.specs.Parcels.{Piece}
use Rattle.crl_protocol.specs.Home.{Home}
use Rattle.crl_protocol.specs.Remote.{Copy, Remote}
use Rattle.crl_protocol.specs.Sections.{section_at}
use Rattle.crl_protocol.specs.Node.{Node, is_mine, home_of}
use Rattle.crl_protocol.specs.World.{World, new_world, IsRunFrom, world_of}
use Rattle.crl_deeds.specs.Counts.{Known}
use Rattle.crl_deeds.specs.NodeFacts.{Seen, OwnFits}
use Rattle.crl_deeds.proofs.Laws.{known_start, known_run, all_took}
use Rattle.crl_flight.specs.Flight.{messages_of}
use Rattle.crl_coherence.specs.Pairs.{SectionFits}
use Rattle.crl_lifetime.proofs.Laws.{messages_in_runs}
use Rattle.crl_regions.specs.Addresses.{GoesToOther}
use Rattle.crl_regions.specs.View.{side, table_of, table_or_blank, array_of}
use Rattle.crl_regions.proofs.Laws.{regions_in_runs, pieces_to_others, sections_are_tables, sizes_known}
use Rattle.crl_history.proofs.Events.{AllAgree}
use Rattle.crl_history.proofs.Maps.{PiecesFit, inbox_took, outbox_took}

pub known_in_runs : (count capacity : ℕ) (run : List Event) → IsRunFrom (new_world count capacity) run → Known (world_of count capacity run)
known_in_runs count capacity run r = known_run (new_world count capacity) run r (known_start count capacity)

-- Pieces.
pub pieces_in_runs : (count capacity : ℕ) (run : List Event) → IsRunFrom (new_world count capacity) run → PiecesFit (world_of count capacity run)
pieces_in_runs count capacity run r = record {
  heard = λ j p rest few took. (let t = inbox_took (world_of count capacity run) j p rest few took in messages_in_runs count capacity run p t.0 r t.1);
  sent = λ j p rest few took. (let t = outbox_took (world_of count capacity run) j p rest few took in (all_took (λ (x : Piece). GoesToOther (world_of count capacity run).count x.message) t.1 (pieces_to_others count capacity run r)).0.addressee);
}

-- Sections: those of a node's own regions are those of the table.
pub own_home : (i : ℕ) (n : Node) (q : Name) (h : Home) → n.me ≡ i → home_of n q ≡ Some h → q.home ≡ i
own_home i n q h me e = go (is_mine n q) refl
  where
    go : (b : Bool) → is_mine n q ≡ b → q.home ≡ i
    go true w = eqb-true q.home n.me w ∙ me
    go false w = let none : home_of n q ≡ None = cond-false (is_mine n q) _ None w in cc

at_home : (w : World) (i : ℕ) (q : Name) (h : Home) → q.home ≡ i → home_of (w.nodes i) q ≡ Some h → table_of q w ≡ Some h
at_home w i q h same e = ap (λ k. home_of (w.nodes k) q) same ∙ e

section_home : (count capacity : ℕ) (run : List Event) → IsRunFrom (new_world count capacity) run → (i : ℕ) (q : Name) (h : Home) → home_of ((world_of count capacity run).nodes i) q ≡ Some h → h.mine ≡ section_at q ((world_of count capacity run).nodes i).sections
section_home count capacity run r i q h e =
    let w = world_of count capacity run in
    let same = own_home i (w.nodes i) q h ((known_in_runs count capacity run r).fits i).me e in
    sym (cond-true (i == q.home) _ _ (eq-eqb i q.home (sym same)) ∙ ap (λ o. (table_or_blank o).mine) (at_home w i q h same e)) ∙ sections_are_tables count capacity run r i q [] []

-- A node that asks for a copy has no section open.
pub not_own : (mine : Bool) (v : Seen) (x : Remote) → OwnFits mine v → v.remote ≡ Some x → mine ≡ false
not_own true v x f e = let none = f.nothing in cc
not_own false v x f e = refl

none_open : (x : Section) (c : Option Copy) (asking : Option Bool) (write : Bool) → asking ≡ Some write → SectionFits x c asking → x ≡ section.Closed
none_open section.Closed c asking write e f = refl
none_open (section.Reading k) c asking write e f = absurd (reads c (subst (SectionFits (section.Reading k) c) e f))
  where
    reads : (c : Option Copy) → SectionFits (section.Reading k) c (Some write) → ⊥
    reads None f = f
    reads (Some copy) f = f
none_open section.Writing c asking write e f = absurd (writes c (subst (SectionFits section.Writing c) e f))
  where
    writes : (c : Option Copy) → SectionFits section.Writing c (Some write) → ⊥
    writes None f = f
    writes (Some copy) f = f

section_asking : (count capacity : ℕ) (run : List Event) → IsRunFrom (new_world count capacity) run → (i : ℕ) (q : Name) (x : Remote) (write : Bool) → ((world_of count capacity run).nodes i).remotes q ≡ Some x → x.asking ≡ Some write
    → section_at q ((world_of count capacity run).nodes i).sections ≡ section.Closed
section_asking count capacity run r i q x write e asks =
    let w = world_of count capacity run in
    let fits = (known_in_runs count capacity run r).fits i in
    let other = not_own (is_mine (w.nodes i) q) _ x (fits.each q).own e in
    let apart : (i == q.home) ≡ false = ne_eqb i q.home (λ same. eqb-false q.home (w.nodes i).me other (sym same ∙ sym fits.me)) in
    let t = (sizes_known count capacity run r).record_of i q x e in
    let us = regions_in_runs count capacity run r in
    let pair = (us.1.coherent q t.0 t.1).loose.pairs i (λ same. eqb-false i q.home apart same) in
    let here : side (table_or_blank (table_of q w)).size ((w.nodes i).remotes q) ≡ x = ap (λ o. side (table_or_blank (table_of q w)).size o) e in
    sym (sections_are_tables count capacity run r i q (array_of q count capacity run) (messages_of us.0)) ∙ cond-false (i == q.home) _ _ apart ∙ ap (λ (y : Remote). y.here) here
    ∙ none_open x.here x.copy x.asking write asks (subst (λ (y : Remote). SectionFits y.here y.copy y.asking) here pair.section)

pub agree_in_runs : (count capacity : ℕ) (run : List Event) → IsRunFrom (new_world count capacity) run → AllAgree (world_of count capacity run)
agree_in_runs count capacity run r i = record { home = section_home count capacity run r i; asking = section_asking count capacity run r i }
