-- The bytes of each open section that a node notes are the region's in the array.
use Rattle.std.proofs.Common.{◌≡◌, ◌≢◌, ◌⊎◌, inl, inr, ℕ, ◌==◌, Bool, true, false, None, Some, Option, List, if◌then◌else◌, refl, ap, sym, ◌∙◌, subst}
use Rattle.std.proofs.lemmas.Bool.{cond-true, cond-false}
use Rattle.crl_model.specs.declared.name.Name.{Name}
use Rattle.crl_model.specs.declared.call.Call.{Call}
use Rattle.crl_model.specs.declared.event.Event.{Event}
use Rattle.crl_model.specs.declared.event.Event.TheVariants as event
use Rattle.crl_model.specs.declared.entry.What.{What}
use Rattle.crl_model.specs.declared.directory.Section.{Section}
use Rattle.crl_model.specs.declared.directory.Section.TheVariants as section
use Rattle.crl_model.specs.Names.{name_eq, at_name}
use Rattle.crl_protocol.specs.Home.{Home, one_section_less}
use Rattle.crl_protocol.specs.Remote.{Remote, is_closed}
use Rattle.crl_protocol.specs.Sections.{OpenSection, Sections, section_of, section_at, section_begins, begins_to_read, ends_over, section_ends}
use Rattle.crl_protocol.specs.Sectioning.{copy_bytes}
use Rattle.crl_protocol.specs.Lifetimes.{Mapping}
use Rattle.crl_protocol.specs.Node.{Node, Outcome, home_of, with_home}
use Rattle.crl_protocol.specs.World.{World, WorldStep}
use Rattle.crl_deeds.specs.Deeds.{Cause, Copies, Lives, Rounds, Notes, Deed, copies, lives, rounds, notes, home_opens, home_waits, side_opens, side_waits, home_ends, side_ends, side_flushes, home_serves, home_serves_own, grant_comes, side_called, made, ends_nowhere, flushes_own, flushes_nowhere, comes_away}
use Rattle.crl_flight.specs.Flight.{Under, messages_of}
use Rattle.crl_coherence.specs.Region.{Region}
use Rattle.crl_coherence.specs.Coherent as region
use Rattle.crl_coherence.specs.Coherent.{IsCoherent}
use Rattle.crl_coherence.proofs.Laws.{array_left, open_bytes}
use Rattle.crl_regions.specs.View.{table_of, view}
use Rattle.crl_regions.specs.Steps.{IsCarried, GoesOn, RegionsGoOn}
use Rattle.crl_regions.proofs.AllNodesHold.{AllNodesHold}
use Rattle.crl_regions.proofs.Carried.{of_node, arrived_all}
use Rattle.crl_regions.proofs.Noted.{bytes_in, bytes_here, section_noted, bytes_noted, open_table}
use Rattle.crl_deeds.proofs.Laws.{by_name, name_self, home_put}
use Rattle.crl_deeds.specs.NodeFacts.{RecordFits}
use Rattle.crl_deeds.specs.Turns.{Turn, calls, hears, gathers, answers, carriage}

-- A record that is noted was there before with the same bytes, or has those of the table or the side.
abbrev IsOld : Option OpenSection → OpenSection → Type 0
IsOld o r = (old : OpenSection) × (o ≡ Some old) × (old.bytes ≡ r.bytes)

abbrev pub RecordFrom : Node → Node → Name → Type 0
RecordFrom n m q = (r : OpenSection) → m.sections.records q ≡ Some r → IsOld (n.sections.records q) r ⊎ (r.bytes ≡ bytes_here m q)

stays : (n m : Node) (q : Name) → m.sections.records q ≡ n.sections.records q → RecordFrom n m q
stays n m q e r f = inl (r, sym e ∙ f, refl)

-- where a section begins and ends
begun_of : (o : Option OpenSection) (name : Name) (bytes : List ℕ) (s : Sections) (r : OpenSection) → s.records name ≡ o → (begins_to_read name o bytes s).sections.records name ≡ Some r → IsOld o r ⊎ (r.bytes ≡ bytes)
begun_of None name bytes s r w e = inr (let f = sym (cond-true (name_eq name name) _ _ (name_self name)) ∙ e in cc)
begun_of (Some x) name bytes s r w e = inl (x, refl, (let f = sym (cond-true (name_eq name name) _ _ (name_self name)) ∙ e in cc))

begins_at : (write : Bool) (name : Name) (bytes : List ℕ) (s : Sections) (r : OpenSection) → (section_begins write name bytes s).sections.records name ≡ Some r → IsOld (s.records name) r ⊎ (r.bytes ≡ bytes)
unfolding section_begins
begins_at true name bytes s r e = inr (let f = sym (cond-true (name_eq name name) _ _ (name_self name)) ∙ e in cc)
begins_at false name bytes s r e = begun_of (s.records name) name bytes s r refl e

begun_other : (o : Option OpenSection) (name q : Name) (bytes : List ℕ) (s : Sections) → name_eq name q ≡ false → (begins_to_read name o bytes s).sections.records q ≡ s.records q
begun_other None name q bytes s e = cond-false (name_eq name q) _ _ e
begun_other (Some x) name q bytes s e = cond-false (name_eq name q) _ _ e

begins_other : (write : Bool) (name q : Name) (bytes : List ℕ) (s : Sections) → name_eq name q ≡ false → (section_begins write name bytes s).sections.records q ≡ s.records q
unfolding section_begins
begins_other true name q bytes s e = cond-false (name_eq name q) _ _ e
begins_other false name q bytes s e = begun_other (s.records name) name q bytes s e

ends_in : (x : OpenSection) (k : Section) (r : OpenSection) → elim k [ section.Closed ↦ None | section.Reading count ↦ Some (record x { section = section.Reading count }) | section.Writing ↦ None ] ≡ Some r → x.bytes ≡ r.bytes
ends_in x section.Closed r e = cc
ends_in x (section.Reading count) r e = cc
ends_in x section.Writing r e = cc

ends_from : (o : Option OpenSection) (name q : Name) (s : Sections) (r : OpenSection) → s.records name ≡ o → (ends_over name o s).records q ≡ Some r → IsOld (s.records q) r
ends_from None name q s r w = λ e. (r, e, refl)
ends_from (Some x) name q s r w =
    by_name name (λ b p. (if b then elim (one_section_less x.section) [ section.Closed ↦ None | section.Reading count ↦ Some (record x { section = section.Reading count }) | section.Writing ↦ None ] else s.records p) ≡ Some r → IsOld (s.records p) r)
    (λ e. (x, w, ends_in x (one_section_less x.section) r e)) (λ p other e. (r, e, refl)) q

section_ended : (name q : Name) (s : Sections) (r : OpenSection) → (section_ends name s).records q ≡ Some r → IsOld (s.records q) r
unfolding section_ends
section_ended name q s r e = ends_from (s.records name) name q s r refl e

-- A section that opens with the bytes of its table, and of its side.
opens_home : (n m : Node) (write : Bool) (name : Name) (h g : Home) → home_of n name ≡ Some h → m.sections ≡ (section_begins write name g.bytes n.sections).sections → ((q : Name) → home_of m q ≡ home_of (with_home name g n) q) → (q : Name) → RecordFrom n m q
opens_home n m write name h g e opened homes q r = subst (λ s. s.records q ≡ Some r → IsOld (n.sections.records q) r ⊎ (r.bytes ≡ bytes_here m q)) (sym opened)
    (by_name name (λ b p. p ≡ q → (section_begins write name g.bytes n.sections).sections.records p ≡ Some r → IsOld (n.sections.records p) r ⊎ (r.bytes ≡ bytes_here m p)) (λ same f. here f) (λ p other same f. inl (r, sym (begins_other write name p g.bytes n.sections other) ∙ f, refl)) q refl)
  where
    table : home_of m name ≡ Some g
    table = homes name ∙ home_put n name h g e name ∙ cond-true (name_eq name name) _ _ (name_self name)

    here : (section_begins write name g.bytes n.sections).sections.records name ≡ Some r → IsOld (n.sections.records name) r ⊎ (r.bytes ≡ bytes_here m name)
    here f = elim (begins_at write name g.bytes n.sections r f) [
      | inl old ↦ inl old
      | inr new ↦ inr (new ∙ sym (ap (λ o. bytes_in o (m.remotes name)) table))
    ]

opens_side : (n m : Node) (write : Bool) (name : Name) (s : Remote) → home_of m name ≡ None → m.remotes name ≡ Some s → m.sections ≡ (section_begins write name (copy_bytes s.copy) n.sections).sections → (q : Name) → RecordFrom n m q
opens_side n m write name s none e opened q r = subst (λ x. x.records q ≡ Some r → IsOld (n.sections.records q) r ⊎ (r.bytes ≡ bytes_here m q)) (sym opened)
    (by_name name (λ b p. p ≡ q → (section_begins write name (copy_bytes s.copy) n.sections).sections.records p ≡ Some r → IsOld (n.sections.records p) r ⊎ (r.bytes ≡ bytes_here m p)) (λ same f. here f) (λ p other same f. inl (r, sym (begins_other write name p (copy_bytes s.copy) n.sections other) ∙ f, refl)) q refl)
  where
    here : (section_begins write name (copy_bytes s.copy) n.sections).sections.records name ≡ Some r → IsOld (n.sections.records name) r ⊎ (r.bytes ≡ bytes_here m name)
    here f = elim (begins_at write name (copy_bytes s.copy) n.sections r f) [
      | inl old ↦ inl old
      | inr new ↦ inr (new ∙ sym (ap (λ o. bytes_in o (m.remotes name)) none ∙ ap (λ o. bytes_in None o) e))
    ]

-- Deeds.
put_here : (n : Node) (name : Name) (o : Option Remote) → at_name n.remotes name o name ≡ o
put_here n name o = cond-true (name_eq name name) _ _ (name_self name)

abbrev NoTables : Node → Type 0
NoTables n = (q : Name) (r : Remote) → n.remotes q ≡ Some r → home_of n q ≡ None

records_copies : (n : Node) (cause : Cause) (o : Outcome) → Copies n cause o → NoTables n → (q : Name) → RecordFrom n o.node q
records_copies n cause o (home_opens c write name h is e v x) t q = opens_home n o.node write name h _ e refl (λ p. refl) q
records_copies n cause o (side_opens c write name r is none e v x) t q = opens_side n o.node write name _ none (put_here n name _) refl q
records_copies n cause o (home_ends c name w ends lowers h is e) t q = λ r f. inl (section_ended name q n.sections r f)
records_copies n cause o (side_ends c name w ends lowers r is none e) t q = λ x f. inl (section_ended name q n.sections x f)
records_copies n cause o (home_serves_own from k name h s is e x) t q = opens_home n o.node _ name h s.home e refl (λ p. refl) q
records_copies n cause o (grant_comes from name version g r e fits) t q = opens_side n o.node _ name _ (t name r e) (put_here n name _) refl q
records_copies n cause o (home_waits c write name h is e v x) t q = stays n o.node q refl
records_copies n cause o (side_waits c write name r is none e v x) t q = stays n o.node q refl
records_copies n cause o (side_flushes name r other e closed) t q = stays n o.node q refl
records_copies n cause o (home_serves from k name h s is e x) t q = stays n o.node q refl
records_copies n cause o (side_called from k name r s is e) t q = stays n o.node q refl

records_lives : (n : Node) (cause : Cause) (o : Outcome) → Lives n cause o → o.node.sections ≡ n.sections
records_lives n cause o (made size e) = refl
records_lives n cause o _ = refl

records_rounds : (n : Node) (cause : Cause) (o : Outcome) → Rounds n cause o → o.node.sections ≡ n.sections
records_rounds n cause o (comes_away part other fits) = refl
records_rounds n cause o _ = refl

records_notes : (n : Node) (c : Call) (w : What) (m : Node) → Notes n c w m → (q : Name) → RecordFrom n m q
records_notes n c w m (ends_nowhere c0 name w0 ends lowers is none) q = λ r f. inl (section_ended name q n.sections r f)
records_notes n c w m (flushes_own name mine closed) q = stays n m q refl
records_notes n c w m (flushes_nowhere name other e closed) q = stays n m q refl

pub records_deed : (n : Node) (cause : Cause) (o : Outcome) → Deed n cause o → NoTables n → (q : Name) → RecordFrom n o.node q
records_deed n cause o (copies d) t q = records_copies n cause o d t q
records_deed n cause o (lives d) t q = stays n o.node q (ap (λ (s : Sections). s.records q) (records_lives n cause o d))
records_deed n cause o (rounds d) t q = stays n o.node q (ap (λ (s : Sections). s.records q) (records_rounds n cause o d))
records_deed n cause o (notes d) t q = records_notes n _ _ _ d q
records_deed n cause o _ t q = stays n o.node q refl

-- Of all nodes, after any event.
same_node : (n : Node) (q : Name) → RecordFrom n n q
same_node n q r e = inl (r, e, refl)

pub records_turn : (w : World) (v : WorldStep) {e : Event} → Turn w e v → ((i : ℕ) → NoTables (w.nodes i)) → (j : ℕ) (q : Name) → RecordFrom (w.nodes j) (v.world.nodes j) q
records_turn w v (calls i c o few free may d) t = of_node w.nodes i _ (λ j n. (q : Name) → RecordFrom (w.nodes j) n q) (λ q. records_deed (w.nodes i) _ o d (t i) q) (λ j other. same_node (w.nodes j))
records_turn w v (hears i place p rest parcels part o few took d) t = of_node w.nodes i _ (λ j n. (q : Name) → RecordFrom (w.nodes j) n q) (λ q. records_deed (record (w.nodes i) { inbox = rest; parcels = parcels }) _ o d (t i) q) (λ j other. same_node (w.nodes j))
records_turn w v (gathers i place p rest parcels key few took keyed) t = of_node w.nodes i _ (λ j n. (q : Name) → RecordFrom (w.nodes j) n q) (same_node (w.nodes i)) (λ j other. same_node (w.nodes j))
records_turn w v (answers i answer few ready) t = of_node w.nodes i _ (λ j n. (q : Name) → RecordFrom (w.nodes j) n q) (same_node (w.nodes i)) (λ j other. same_node (w.nodes j))
records_turn w v (carriage i place p rest few took) t = arrived_all i (event.Carry i place) (record { taken = p; rest = rest }) w (λ j n. (q : Name) → RecordFrom (w.nodes j) n q) (λ j. same_node (w.nodes j)) (λ h. h) (λ n h. h)

-- So the bytes of all records are the arrays', where they were before the step.
is_open : (o : Option OpenSection) (r : OpenSection) (m : Option Mapping) → o ≡ Some r → RecordFits o m → section_of o ≢ section.Closed
is_open (Some x) r (Some m) e (len, open_now) w = let closed = ap is_closed w in cc
is_open (Some x) r None e f w = absurd f
is_open None r m e f w = cc

carried_section : (me : ℕ) (c k : Region) (n : ℕ) → IsCarried c k → region.node_section me c n ≡ region.node_section me k n
carried_section me c k n x = ap (λ (h : Home). if n == me then h.mine else (c.remotes n).here) x.home ∙ ap (λ (r : Remote). if n == me then k.home.mine else r.here) (x.remotes n)

abbrev pub Shows : World → (Name → List ℕ) → Type 0
Shows w arrays = (i : ℕ) (name : Name) (r : OpenSection) → (w.nodes i).sections.records name ≡ Some r → r.bytes ≡ arrays name

pub records_show : (w v : World) (arrays left : Name → List ℕ) (us vs : List Under) → AllNodesHold w arrays us → AllNodesHold v left vs
    → ((q : Name) (h : Home) → table_of q w ≡ Some h → IsCoherent q.home (view q (arrays q) (messages_of us) w)) → ((q : Name) (h : Home) → table_of q v ≡ Some h → IsCoherent q.home (view q (left q) (messages_of vs) v))
    → RegionsGoOn w v us vs arrays left → ((j : ℕ) (q : Name) → RecordFrom (w.nodes j) (v.nodes j) q) → Shows w arrays → Shows v left
records_show w v arrays left us vs k l coherent coherent_after go from shown j q r e = elim (from j q r e) [
  | inl old ↦ (let was = is_open _ old.0 ((w.nodes j).maps q) old.1 ((k.fits j).each q).sections in
      let t = open_table w arrays us j q k was in
      let x = go.goes_on q t.0 t.1 in
      sym old.2 ∙ shown j q old.0 old.1 ∙ stays_in x (coherent q t.0 t.1) was)
  | inr new ↦ new ∙ bytes_noted v left vs (left q) (messages_of vs) j q l ∙ (let t = open_table v left vs j q l now in
      open_bytes q.home (view q (left q) (messages_of vs) v) j (coherent_after q t.0 t.1) (λ closed. now (sym (section_noted v left vs (left q) (messages_of vs) j q l) ∙ closed)))
]
  where
    now : section_at q (v.nodes j).sections ≢ section.Closed
    now = is_open _ r ((v.nodes j).maps q) e ((l.fits j).each q).sections

    stays_in : GoesOn q.home (view q (arrays q) (messages_of us) w) (view q (left q) (messages_of vs) v) → IsCoherent q.home (view q (arrays q) (messages_of us) w) → section_at q (w.nodes j).sections ≢ section.Closed → arrays q ≡ left q
    stays_in x c was = elim (array_left q.home (view q (arrays q) (messages_of us) w) x.0 j c x.1 (λ closed. was (sym (section_noted w arrays us (arrays q) (messages_of us) j q k) ∙ closed))) [
      | inl same ↦ sym same ∙ x.2.array
      | inr ended ↦ absurd (now (sym (section_noted v left vs (left q) (messages_of vs) j q l) ∙ sym (carried_section q.home x.0 (view q (left q) (messages_of vs) v) j x.2) ∙ ended.1))
    ]
