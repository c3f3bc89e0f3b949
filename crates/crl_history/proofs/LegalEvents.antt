-- The entries of each event are legal, each after those before it.
use Rattle.std.proofs.Common.{◌≡◌, ◌≢◌, ℕ, ◌<◌, ◌==◌, Bool, true, false, None, Some, Option, List, refl, ap, sym, ◌∙◌, subst}
use Rattle.std.proofs.lemmas.Bool.{cond-true, cond-false, eqb-true, eqb-false, eq-eqb}
use Rattle.crl_model.specs.declared.name.Name.{Name}
use Rattle.crl_model.specs.declared.directory.Section.{Section}
use Rattle.crl_model.specs.declared.directory.Section.TheVariants as section
use Rattle.crl_model.specs.declared.event.Event.{Event}
use Rattle.crl_model.specs.declared.event.Event.TheVariants as event
use Rattle.crl_model.specs.Names.{name_eq, at_name}
use Rattle.crl_machine.specs.SingleMachine.{State, IsHistory, IsClosedAt}
use Rattle.crl_protocol.specs.Parcels.{Piece, PartsGathered, with_load}
use Rattle.crl_protocol.specs.Home.{one_section_more}
use Rattle.crl_protocol.specs.Sections.{OpenSection, Sections, section_of, section_at, count_of, is_writing, section_begins, begins_to_read}
use Rattle.crl_protocol.specs.Node.{Node, Outcome}
use Rattle.crl_protocol.specs.World.{World, WorldStep, commits, steps_node}
use Rattle.crl_deeds.specs.Deeds.{FreeIf, Cause, Calls, Hears, Deed}
use Rattle.crl_deeds.specs.Deeds as deed
use Rattle.crl_deeds.specs.NodeFacts.{Leaves, ComesIn}
use Rattle.crl_deeds.specs.Turns.{noted_as, Turn, Came}
use Rattle.crl_deeds.specs.Turns as turn
use Rattle.crl_deeds.proofs.Laws.{refused_for, all_took, away_load, name_self}
use Rattle.crl_regions.specs.Reached.{WriteSectionsAreAlone}
use Rattle.crl_rounds.specs.Standing.{FitAll}
use Rattle.crl_history.proofs.Events.{NodeKnown, node_known, boxed_known}
use Rattle.crl_history.proofs.Openings.{OpensAs}
use Rattle.crl_history.proofs.Seen.{Sees, HeardFits, CauseFits, Lets, LetsBegin}
use Rattle.crl_history.proofs.SectionEntries.{copies_legal, notes_legal}
use Rattle.crl_history.proofs.MapEntries.{lives_legal}
use Rattle.crl_history.proofs.RoundEntries.{rounds_legal}
use Rattle.crl_history.proofs.RefusalEntries.{refuses_legal}
use Rattle.crl_history.proofs.Grounds.{Ground, sees, heard}

deed_legal : (s : State) (j : ℕ) (n : Node) (cause : Cause) (o : Outcome) → Deed n cause o → Came Leaves n.me cause → NodeKnown j n → FreeIf cause n → CauseFits s n cause → Sees s n → LetsBegin s n o → FitAll s o.entries → IsHistory s o.entries
deed_legal s j n cause o (deed.copies d) away known free fits h lets rounds = copies_legal s j n cause o d away known free fits h lets
deed_legal s j n cause o (deed.lives d) away known free fits h lets rounds = lives_legal s j n cause o d known free fits h
deed_legal s j n cause o (deed.rounds d) away known free fits h lets rounds = rounds_legal s n cause o d free h rounds
deed_legal s j n cause o (deed.notes d) away known free fits h lets rounds = (notes_legal s n _ _ _ d fits free h, tt)
deed_legal s j n cause o (deed.refuses c why e) away known free fits h lets rounds = (refuses_legal s j n c why (refused_for n c why e) free known h, tt)
deed_legal s j n cause o (deed.idles d) away known free fits h lets rounds = tt

-- A section that begins is open then, and one to write is a write section.
pub put_here : (f : Name → Option OpenSection) (name : Name) (v : Option OpenSection) → at_name f name v name ≡ v
put_here f name v = cond-true (name_eq name name) v (f name) (name_self name)

pub write_begun : (name : Name) (bytes : List ℕ) (x : Sections) → section_at name (section_begins true name bytes x).sections ≡ section.Writing
unfolding section_begins
write_begun name bytes x = ap section_of (put_here x.records name _)

more_open : (x : Section) → is_writing x ≡ false → one_section_more x ≢ section.Closed
more_open section.Closed e w = cc
more_open (section.Reading count) e w = cc
more_open section.Writing e w = cc

read_begun : (name : Name) (bytes : List ℕ) (x : Sections) (o : Option OpenSection) → is_writing (section_of o) ≡ false → section_at name (begins_to_read name o bytes x).sections ≢ section.Closed
read_begun name bytes x None e w = let a = sym (ap section_of (put_here x.records name _)) ∙ w in cc
read_begun name bytes x (Some r) e w = more_open r.section e (sym (ap section_of (put_here x.records name (Some (record r { section = one_section_more r.section })))) ∙ w)

pub read_opens : (name : Name) (bytes : List ℕ) (x : Sections) → is_writing (section_at name x) ≡ false → section_at name (section_begins false name bytes x).sections ≢ section.Closed
unfolding section_begins
read_opens name bytes x e w = read_begun name bytes x (x.records name) e w

-- In the world after the event, a write section is alone, and so the one that begins met none in its way.
other_stays : (w : World) (i : ℕ) (e : Event) (o : Outcome) (m : ℕ) → (i == m) ≡ false → (steps_node i e o w).world.nodes m ≡ w.nodes m
other_stays w i e o m apart = cond-false (i == m) (commits w.events e o) (w.nodes m) apart

here_goes : (w : World) (i : ℕ) (e : Event) (o : Outcome) → ((steps_node i e o w).world.nodes i).sections ≡ o.node.sections
here_goes w i e o = ap (λ (n : Node). n.sections) (cond-true (i == i) (commits w.events e o) (w.nodes i) (eq-eqb i i refl))

write_lets : (w : World) (s : State) (i : ℕ) (e : Event) (o : Outcome) → Ground w s → WriteSectionsAreAlone (steps_node i e o w).world → (name : Name) (bytes : List ℕ) → OpensAs true (section_at name (w.nodes i).sections)
    → o.node.sections ≡ (section_begins true name bytes (w.nodes i).sections).sections → (m : ℕ) → m < s.nodes → IsClosedAt s m name
write_lets w s i e o g alone name bytes may begins m few = go (i == m) refl
  where
    near : m < w.count
    near = subst (λ c. m < c) g.mirrors.nodes few

    closed : section_at name (w.nodes m).sections ≡ section.Closed → IsClosedAt s m name
    closed x = (g.mirrors.reads m name near ∙ ap count_of x, g.mirrors.writes m name near ∙ ap is_writing x)

    go : (b : Bool) → (i == m) ≡ b → IsClosedAt s m name
    go true same = closed (subst (λ k. section_at name (w.nodes k).sections ≡ section.Closed) (eqb-true i m same) may)
    go false apart =
        let writing = ap (λ x. section_at name x) (here_goes w i e o ∙ begins) ∙ write_begun name bytes (w.nodes i).sections in
        closed (sym (ap (λ (n : Node). section_at name n.sections) (other_stays w i e o m apart)) ∙ alone name i m (eqb-false i m apart) writing)

read_lets : (w : World) (s : State) (i : ℕ) (e : Event) (o : Outcome) → Ground w s → WriteSectionsAreAlone (steps_node i e o w).world → (name : Name) (bytes : List ℕ) → OpensAs false (section_at name (w.nodes i).sections)
    → o.node.sections ≡ (section_begins false name bytes (w.nodes i).sections).sections → (m : ℕ) → m < s.nodes → s.writes m name ≡ false
read_lets w s i e o g alone name bytes may begins m few = go (i == m) refl
  where
    near : m < w.count
    near = subst (λ c. m < c) g.mirrors.nodes few

    writes : (x : Section) → section_at name (w.nodes m).sections ≡ x → (x ≡ section.Writing → ⊥) → s.writes m name ≡ false
    writes section.Closed e none = g.mirrors.writes m name near ∙ ap is_writing e
    writes (section.Reading count) e none = g.mirrors.writes m name near ∙ ap is_writing e
    writes section.Writing e none = absurd (none refl)

    go : (b : Bool) → (i == m) ≡ b → s.writes m name ≡ false
    go true same = g.mirrors.writes m name near ∙ subst (λ k. is_writing (section_at name (w.nodes k).sections) ≡ false) (eqb-true i m same) may
    go false apart =
        writes (section_at name (w.nodes m).sections) refl
        (λ x. read_opens name bytes (w.nodes i).sections may
        (sym (ap (λ y. section_at name y) (here_goes w i e o ∙ begins)) ∙ alone name m i (λ same. eqb-false i m apart (sym same)) (ap (λ (n : Node). section_at name n.sections) (other_stays w i e o m apart) ∙ x)))

lets_as : (w : World) (s : State) (i : ℕ) (e : Event) (o : Outcome) → Ground w s → WriteSectionsAreAlone (steps_node i e o w).world → (write : Bool) (name : Name) (bytes : List ℕ) → OpensAs write (section_at name (w.nodes i).sections)
    → o.node.sections ≡ (section_begins write name bytes (w.nodes i).sections).sections → Lets s write name
lets_as w s i e o g alone true name bytes may begins = write_lets w s i e o g alone name bytes may begins
lets_as w s i e o g alone false name bytes may begins = read_lets w s i e o g alone name bytes may begins

-- what is known of a node, but for its boxes
boxed_sees : (s : State) (n : Node) (inbox : List Piece) (parcels : PartsGathered) → Sees s n → Sees s (record n { inbox = inbox; parcels = parcels })
boxed_sees s n inbox parcels h = record {
  few = h.few;
  free = h.free;
  used = record { is = h.used.is; most = h.used.most };
  came = h.came;
  stages = h.stages;
  unreal = h.unreal;
  sound = h.sound;
  doomed = h.doomed;
  table = h.table;
  mapped = h.mapped;
  cached = h.cached;
  deleters = h.deleters;
  maps = h.maps;
  counts = h.counts;
  sections = h.sections;
  shown = h.shown;
}

pub turn_legal : (w : World) (v : WorldStep) (s : State) → {e : Event} → Turn w e v → Ground w s → WriteSectionsAreAlone v.world → FitAll s v.entries → IsHistory s v.entries
turn_legal w v s (turn.calls i c o few free is d) g alone rounds =
    deed_legal s i (w.nodes i) (Calls c) o d tt (node_known w g.known g.agree i) free is (sees w s i g few) (lets_as w s i (noted_as w i c) o g alone) rounds
turn_legal w v s (turn.hears i place p rest parcels part o few took d) g alone rounds =
    let n = w.nodes i in
    let from = p.message.sender in
    let me = (g.known.fits i).me in
    let away = subst (λ (x : Type 0). x) (away_load from n.me part p.message.kind) (all_took (ComesIn n.me) took (g.known.fits i).inbox).0 in
    deed_legal s i (record n { inbox = rest; parcels = parcels }) _ o d away (boxed_known i n p rest parcels took (node_known w g.known g.agree i)) tt
    (subst (λ k. HeardFits s from k (with_load part p.message.kind)) (sym me) (heard w s i p rest part g few took)) (boxed_sees s n rest parcels (sees w s i g few)) (lets_as w s i (event.Handle i place) o g alone) rounds
turn_legal w v s _ g alone rounds = tt
