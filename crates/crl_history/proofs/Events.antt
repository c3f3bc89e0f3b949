-- What a node has and what the single machine has of it go the same way with each event.
use Rattle.std.proofs.Common.{◌≡◌, ℕ, ◌<◌, ◌==◌, Bool, true, false, None, Some, Option, List, refl, ap, sym, ◌∙◌, subst}
use Rattle.std.proofs.lemmas.Bool.{cond_both, and_parts, eqb-true, ltb-true}
use Rattle.crl_model.specs.declared.name.Name.{Name}
use Rattle.crl_model.specs.declared.directory.Section.TheVariants.{Closed}
use Rattle.crl_model.specs.declared.event.Event.{Event}
use Rattle.crl_model.specs.declared.event.Event.TheVariants as event
use Rattle.crl_model.specs.Names.{at_node}
use Rattle.crl_machine.specs.SingleMachine.{State, after_all}
use Rattle.crl_protocol.specs.Parcels.{Piece, with_load, PartsGathered}
use Rattle.crl_protocol.specs.Places.{Took, Taken, take_out}
use Rattle.crl_protocol.specs.Home.{Home}
use Rattle.crl_protocol.specs.Remote.{Remote}
use Rattle.crl_protocol.specs.Sections.{section_at}
use Rattle.crl_protocol.specs.Node.{Node, Activity, Free, Waiting, Ready, Recorded, Note, Outcome, home_of}
use Rattle.crl_protocol.specs.Calls.{node_calls}
use Rattle.crl_protocol.specs.Verdict.{verdict}
use Rattle.crl_protocol.specs.World.{World, note, put_in, commits, collects, carries, steps_node, handles_at, step, is_ready, is_enabled, noted_call}
use Rattle.crl_deeds.specs.Counts.{NoneYet, SectionsFit, Known}
use Rattle.crl_deeds.specs.Deeds.{FreeIf, Cause, Calls, Hears, Deed}
use Rattle.crl_deeds.specs.NodeFacts.{Leaves, ComesIn, Fits}
use Rattle.crl_deeds.specs.Turns.{Came}
use Rattle.crl_deeds.proofs.Laws.{call_deed, message_deed, received, took_at, all_took, away_load, free_is}

-- The sections of a node are those of the home's table, and a node that asks for a copy has none open.
pub record SectionsAgree (n : Node) : Type 0 where
  pub home : (q : Name) (h : Home) → home_of n q ≡ Some h → h.mine ≡ section_at q n.sections
  pub asking : (q : Name) (r : Remote) (write : Bool) → n.remotes q ≡ Some r → r.asking ≡ Some write → section_at q n.sections ≡ Closed

-- What is known of a node that takes a step: the deed is what it does with the call.
abbrev pub IsOutcome : Cause → Node → Outcome → Type 0
IsOutcome (Calls c) n o = o ≡ node_calls c n
IsOutcome (Hears from k) n o = Unit {0}

pub record NodeKnown (j : ℕ) (n : Node) : Type 0 where
  pub fits : Fits j n
  pub none : NoneYet n
  pub sections : SectionsFit n
  pub agree : SectionsAgree n

pub record Acting (j : ℕ) (n : Node) (cause : Cause) (o : Outcome) : Type 0 where
  pub deed : Deed n cause o
  pub known : NodeKnown j n
  pub away : Came Leaves n.me cause
  pub free : FreeIf cause n
  pub is : IsOutcome cause n o

-- A part of the machine's state of one node, and what it says of the node: each deed changes both, and what the machine
-- has of other nodes stays.
pub record Mirrored (A : Type 0) (of : State → ℕ → A) (Says : A → Node → Type 0) : Type 0 where
  pub own : (j : ℕ) (n : Node) (cause : Cause) (o : Outcome) → Acting j n cause o → (s : State) → Says (of s n.me) n → Says (of (after_all s o.entries) n.me) o.node
  pub other : (j : ℕ) (n : Node) (cause : Cause) (o : Outcome) → Acting j n cause o → (s : State) (k : ℕ) → (n.me == k) ≡ false → of (after_all s o.entries) k ≡ of s k
  pub boxes : (a : A) (n : Node) (inbox outbox : List Piece) (parcels : PartsGathered) (records : List Recorded) (notes : List Note) (posted : ℕ) → Says a n
      → Says a (record n { inbox = inbox; outbox = outbox; parcels = parcels; records = records; notes = notes; posted = posted })
  pub answered : (a : A) (n : Node) → Says a n → Says a (record n { activity = Free })

abbrev pub AllMirror : (A : Type 0) → (State → ℕ → A) → (A → Node → Type 0) → World → State → Type 0
AllMirror A of Says w s = (k : ℕ) → k < w.count → Says (of s k) (w.nodes k)

outcome_mirrors : (A : Type 0) (of : State → ℕ → A) (Says : A → Node → Type 0) → Mirrored A of Says → (w : World) (s : State) (j : ℕ) (n : Node) (e : Event) (cause : Cause) (o : Outcome) → n.me ≡ j → Acting j n cause o → Says (of s j) n → AllMirror A of Says w s
    → AllMirror A of Says (steps_node j e o w).world (after_all s o.entries)
outcome_mirrors A of Says m w s j n e cause o me acting here h k few =
    let t = after_all s o.entries in
    let own = m.own j n cause o acting s (subst (λ i. Says (of s i) n) (sym me) here) in
    cond_both (j == k) (commits w.events e o) (w.nodes k) (λ x. Says (of t k) x)
    (λ same. subst (λ i. Says (of t i) (commits w.events e o)) (me ∙ eqb-true j k same) (m.boxes (of t n.me) o.node _ _ _ _ _ _ own))
    (λ apart. subst (λ a. Says a (w.nodes k)) (sym (m.other j n cause o acting s k (ap (λ i. i == k) me ∙ apart))) (h k few))

-- where nothing is recorded and the node stays but for its boxes
box_mirrors : (A : Type 0) (of : State → ℕ → A) (Says : A → Node → Type 0) → (w : World) (s : State) (j : ℕ) (n : Node) → (j < w.count → Says (of s j) n) → AllMirror A of Says w s → AllMirror A of Says (record w { nodes = at_node w.nodes j n }) s
box_mirrors A of Says w s j n here h k few =
    cond_both (j == k) n (w.nodes k) (λ x. Says (of s k) x) (λ same. subst (λ i. i < w.count → Says (of s i) n) (eqb-true j k same) here few) (λ apart. h k few)

-- What is known of a node in a world of a run.
abbrev pub AllAgree : World → Type 0
AllAgree w = (i : ℕ) → SectionsAgree (w.nodes i)

pub node_known : (w : World) → Known w → AllAgree w → (j : ℕ) → NodeKnown j (w.nodes j)
node_known w x agree j = record { fits = x.fits j; none = (x.none j).node; sections = x.sections j; agree = agree j }

pub boxed_known : (j : ℕ) (n : Node) (p : Piece) (rest : List Piece) (parcels : PartsGathered) → Took p n.inbox rest → NodeKnown j n → NodeKnown j (record n { inbox = rest; parcels = parcels })
boxed_known j n p rest parcels took k = record {
  fits = record { me = k.fits.me; each = k.fits.each; cache = k.fits.cache; fresh = k.fits.fresh; inbox = (all_took (ComesIn n.me) took k.fits.inbox).1; outbox = k.fits.outbox };
  none = k.none;
  sections = record { each = k.sections.each; waiting = k.sections.waiting };
  agree = record { home = k.agree.home; asking = k.agree.asking };
}

pub mirrored_event : (A : Type 0) (of : State → ℕ → A) (Says : A → Node → Type 0) → Mirrored A of Says → (w : World) (e : Event) → is_enabled e w ≡ true → Known w → AllAgree w → (s : State) → AllMirror A of Says w s
    → AllMirror A of Says (step e w).world (after_all s (step e w).entries)
unfolding is_enabled step
mirrored_event A of Says m w (event.Call i c) may x agree s h =
    let parts = and_parts _ _ may in
    let n = w.nodes i in
    outcome_mirrors A of Says m w s i n (event.Call i (noted_call (verdict n c) c)) (Calls c) (node_calls c n) (x.fits i).me
    (record { deed = call_deed n c; known = node_known w x agree i; away = tt; free = free_is n.activity (and_parts _ _ parts.1).0; is = refl }) (h i (ltb-true _ _ parts.0)) h
mirrored_event A of Says m w (event.Collect i) may x agree s h = go (w.nodes i).activity (and_parts _ _ may).1
  where
    here : Says (of s i) (w.nodes i)
    here = h i (ltb-true _ _ (and_parts _ _ may).0)

    go : (a : Activity) → is_ready a ≡ true → AllMirror A of Says (steps_node i (event.Collect i) (collects a (w.nodes i)) w).world (after_all s (collects a (w.nodes i)).entries)
    go Free r = cc
    go (Waiting awaited) r = cc
    go (Ready answer) r = box_mirrors A of Says w s i _ (λ few. m.boxes (of s i) (record (w.nodes i) { activity = Free }) _ _ _ _ _ _ (m.answered (of s i) (w.nodes i) here)) h
mirrored_event A of Says m w (event.Handle i place) may x agree s h = go (take_out place (w.nodes i).inbox) refl
  where
    n : Node
    n = w.nodes i

    e : Event
    e = event.Handle i place

    here : Says (of s i) n
    here = h i (ltb-true _ _ (and_parts _ _ may).0)

    go : (o : Option (Taken Piece)) → take_out place n.inbox ≡ o → AllMirror A of Says (handles_at i e o w).world (after_all s (handles_at i e o w).entries)
    go None t = h
    go (Some t) found =
        let took = took_at place n.inbox t found in
        let from = t.taken.message.sender in
        let away = (all_took (ComesIn n.me) took (x.fits i).inbox).0 in
        received (λ o. AllMirror A of Says (steps_node i e o w).world (after_all s o.entries)) t.taken (record n { inbox = t.rest })
        (λ parcels part. outcome_mirrors A of Says m w s i (record n { inbox = t.rest; parcels = parcels }) e (Hears from (with_load part t.taken.message.kind)) _ (x.fits i).me
        (record {
          deed = message_deed (record n { inbox = t.rest; parcels = parcels }) from (with_load part t.taken.message.kind);
          known = boxed_known i n t.taken t.rest parcels took (node_known w x agree i);
          away = subst (λ (y : Type 0). y) (away_load from n.me part t.taken.message.kind) away;
          free = tt;
          is = tt;
        })
        (m.boxes (of s i) n _ _ _ _ _ _ here) h)
        (λ parcels key keyed. box_mirrors A of Says w s i _ (λ few. m.boxes (of s i) n _ _ _ _ _ _ here) h)
mirrored_event A of Says m w (event.Carry i place) may x agree s h = go (take_out place (w.nodes i).outbox)
  where
    go : (o : Option (Taken Piece)) → AllMirror A of Says (carries i (event.Carry i place) o w).world (after_all s (carries i (event.Carry i place) o w).entries)
    go None = h
    go (Some t) =
        let to = t.taken.message.addressee in
        let sender : Node = note w.events (event.Carry i place) (record (w.nodes i) { outbox = t.rest }) in
        let sent : AllMirror A of Says (record w { nodes = at_node w.nodes i sender }) s = box_mirrors A of Says w s i sender (λ few. m.boxes (of s i) (w.nodes i) _ _ _ _ _ _ (h i few)) h in
        box_mirrors A of Says (record w { nodes = at_node w.nodes i sender }) s to (put_in t.taken (at_node w.nodes i sender to)) (λ few. m.boxes (of s to) (at_node w.nodes i sender to) _ _ _ _ _ _ (sent to few)) sent
