-- What holds of all nodes holds at the start of a run and after each of its events.
use Rattle.std.proofs.Common.{◌≡◌, ℕ, zero, suc, ◌+◌, ◌-◌, ◌<◌, ◌==◌, Bool, true, false, None, Some, Option, List, [], ◌∷◌, if◌then◌else◌, refl, ap, sym, ◌∙◌, subst}
use Rattle.std.proofs.lemmas.Bool.{and_parts, ltb-true}
use Rattle.crl_model.specs.declared.name.Name.{Name}
use Rattle.crl_model.specs.declared.event.Event.{Event}
use Rattle.crl_model.specs.declared.event.Event.TheVariants as event
use Rattle.crl_model.specs.declared.message.Message.{Message}
use Rattle.crl_protocol.specs.Parcels.{Piece}
use Rattle.crl_flight.specs.Flight.{Moves, still, Under, messages_of}
use Rattle.crl_flight.proofs.Laws.{flight_as, carried_fly}
use Rattle.crl_protocol.specs.Places.{at, Taken, take_out}
use Rattle.crl_protocol.specs.Home.{Home}
use Rattle.crl_protocol.specs.Remote.{Remote}
use Rattle.crl_protocol.specs.Sections.{section_at}
use Rattle.crl_protocol.specs.Node.{new_node, home_of}
use Rattle.crl_protocol.specs.World.{World, new_world, world_of, boxes_from, handles_at, carries, step, is_enabled, IsRunFrom, world_after}
use Rattle.crl_coherence.specs.Coherent.{IsCoherent}
use Rattle.crl_coherence.proofs.Laws.{runs_kept}
use Rattle.crl_regions.specs.MailFits.{HasSize}
use Rattle.crl_regions.specs.Reached.{AfterRuns, EventsKeepRegions}
use Rattle.crl_regions.specs.Steps.{RegionsHold, GoesOn, RegionsGoOn}
use Rattle.crl_regions.specs.View.{sight, table_of, tables_of, table_or_blank, view, array_after, array_from, array_of}
use Rattle.crl_regions.proofs.Acts.{expected}
use Rattle.crl_regions.proofs.Addressed.{AddressesAt, PlainSent, addressed_local, addressed_start}
use Rattle.crl_regions.proofs.Asking.{WaitsAsking}
use Rattle.crl_regions.proofs.Sizes.{SizesFit}
use Rattle.crl_regions.proofs.MappedOrCached.{IsMappedOrCached}
use Rattle.crl_regions.proofs.Lift.{run_of}
use Rattle.crl_regions.proofs.Carried.{table_carried, boxes_move, carried_run, arrived_all}
use Rattle.crl_regions.proofs.AllNodesHold.{AllNodesHold}
use Rattle.crl_regions.proofs.Steps.{Grows, sizes_grown, all_grown}
use Rattle.crl_regions.proofs.Records.{Shows, records_show, records_turn}
use Rattle.crl_regions.proofs.Sections.{no_table as no_home}
use Rattle.crl_regions.proofs.Events.{StepKeeps, GoneOn, nothing_on, call_on, collect_on, handle_on}
use Rattle.crl_deeds.proofs.Laws.{fits_start, fits_event, all_took, turn_of, turn_count, held_turn, took_at, kept_turn, sections_kept, free_is, run_count}
use Rattle.crl_deeds.specs.Turns.{Held, HeldOut}
use Rattle.crl_deeds.specs.Counts.{SectionsFit}

carry_on : (w : World) (arrays : Name → List ℕ) (us : List Under) (i place : ℕ) (e : Event) (t : Taken Piece) → i < w.count → take_out place (w.nodes i).outbox ≡ Some t → AllNodesHold w arrays us
    → StepKeeps (carries i e (Some t) w).world → GoneOn w (carries i e (Some t) w).world us arrays arrays
carry_on w arrays us i place e t few out k keeps = record {
  under = us;
  whole = record {
    fits = keeps.0;
    agrees = arrived_all i e t w (λ j n. (q : Name) → expected (home_of n q) (n.remotes q) ≡ section_at q n.sections) k.agrees (λ h. h) (λ n h. h);
    sections = keeps.2;
    cached = arrived_all i e t w (λ j n. IsMappedOrCached n) k.cached (λ h. h) (λ n h. h);
    addressed = keeps.1;
    asks = arrived_all i e t w (λ j n. WaitsAsking n) k.asks (λ h. h) (λ n h. h);
    named_sizes = arrived_all i e t w (λ j n. SizesFit (tables_of v) n) (λ j. sizes_grown (tables_of w) (tables_of v) (w.nodes j) (w.nodes j) grows refl refl (k.named_sizes j)) (λ h. record { mapped = h.mapped; cached = h.cached }) (λ n h. record { mapped = h.mapped; cached = h.cached });
    sizes = arrived_all i e t w (λ j n. (q : Name) (r : Remote) → n.remotes q ≡ Some r → HasSize r.size (table_of q v))
        (λ j q r f. let s = k.sizes j q r f in (s.0, table_carried q i e t w q.home ∙ s.1, s.2)) (λ h. h) (λ n h. h);
    mail = all_grown (tables_of w) (tables_of v) (messages_of us) grows k.mail;
    flies = flight_as us _ _ _ (λ j key. arrived_all i e t w (λ l n. n.parcels key ≡ (w.nodes l).parcels key) (λ l. refl) (λ h. h) (λ n h. h) j)
        (carried_fly us _ _ _ k.flies (boxes_move i place e t w few out less));
    coherent = λ q h there. runs_kept q.home _ _ (run_of q.home _ _ (ran q h)) (k.coherent q h (was q h there));
  };
  went = λ q h there. (h, table_carried q i e t w q.home ∙ there, refl, ran q h);
  made = λ q h none there. absurd (let before = was q h there in cc);
}
  where
    v : World
    v = (carries i e (Some t) w).world

    grows : Grows (tables_of w) (tables_of v)
    grows q h there = (h, table_carried q i e t w q.home ∙ there, refl)

    was : (q : Name) (h : Home) → table_of q v ≡ Some h → table_of q w ≡ Some h
    was q h there = sym (table_carried q i e t w q.home) ∙ there

    less : t.taken.message.addressee < w.count
    less = (all_took (HeldOut (PlainSent w.count)) (took_at place (w.nodes i).outbox t out) (k.addressed i).outbox).0.1.0.addressee

    ran : (q : Name) (h : Home) → GoesOn q.home (sight q h w.nodes (messages_of us) (arrays q)) (sight q h v.nodes (messages_of us) (arrays q))
    ran q h = carried_run q h (arrays q) (messages_of us) i e t w

-- Any event that may come.
abbrev pub Later : World → List Under → Event → (Name → List ℕ) → Type 0
Later w us e arrays = GoneOn w (step e w).world us arrays (λ q. array_after q e w (arrays q))

handled_on : (w : World) (arrays : Name → List ℕ) (us : List Under) (i place : ℕ) (e : Event) (o : Option (Taken Piece)) → i < w.count → take_out place (w.nodes i).inbox ≡ o → AllNodesHold w arrays us
    → StepKeeps (handles_at i e o w).world → GoneOn w (handles_at i e o w).world us arrays arrays
handled_on w arrays us i place e None few out k keeps = nothing_on w arrays us k
handled_on w arrays us i place e (Some t) few out k keeps = handle_on w arrays us i place e t few out k keeps

carried_on : (w : World) (arrays : Name → List ℕ) (us : List Under) (i place : ℕ) (e : Event) (o : Option (Taken Piece)) → i < w.count → take_out place (w.nodes i).outbox ≡ o → AllNodesHold w arrays us
    → StepKeeps (carries i e o w).world → GoneOn w (carries i e o w).world us arrays arrays
carried_on w arrays us i place e None few out k keeps = nothing_on w arrays us k
carried_on w arrays us i place e (Some t) few out k keeps = carry_on w arrays us i place e t few out k keeps

-- what the event leaves of each node
keeps_after : (w : World) (arrays : Name → List ℕ) (us : List Under) (e : Event) → is_enabled e w ≡ true → AllNodesHold w arrays us → StepKeeps (step e w).world
keeps_after w arrays us e h k =
    let turn = turn_of w e h in
    (fits_event w e h k.fits, subst (λ c. Held (AddressesAt c) (PlainSent c) (step e w).world) (sym (turn_count w _ turn)) (held_turn (AddressesAt w.count) (PlainSent w.count) w _ turn (addressed_local w.count) k.addressed), kept_turn SectionsFit sections_kept w _ turn k.fits k.sections)

pub event_on : (w : World) (arrays : Name → List ℕ) (us : List Under) (e : Event) → is_enabled e w ≡ true → AllNodesHold w arrays us → Later w us e arrays
unfolding step is_enabled
event_on w arrays us (event.Call i c) h k =
    let parts = and_parts _ _ h in let more = and_parts _ _ parts.1 in
    call_on w arrays us i _ c (ltb-true i w.count parts.0) (free_is (w.nodes i).activity more.0) more.1 k (keeps_after w arrays us (event.Call i c) h k)
event_on w arrays us (event.Collect i) h k = let parts = and_parts _ _ h in collect_on w arrays us i _ (ltb-true i w.count parts.0) k (keeps_after w arrays us (event.Collect i) h k)
event_on w arrays us (event.Handle i place) h k =
    let parts = and_parts _ _ h in handled_on w arrays us i place (event.Handle i place) (take_out place (w.nodes i).inbox) (ltb-true i w.count parts.0) refl k (keeps_after w arrays us (event.Handle i place) h k)
event_on w arrays us (event.Carry i place) h k =
    let parts = and_parts _ _ h in carried_on w arrays us i place (event.Carry i place) (take_out place (w.nodes i).outbox) (ltb-true i w.count parts.0) refl k (keeps_after w arrays us (event.Carry i place) h k)

-- The start.
no_table : (b c : Bool) (s : ℕ) → (if b then (if c then None else at {A = Home} (s - 1) []) else None) ≡ None
no_table true true s = refl
no_table true false s = refl
no_table false c s = refl

nothing_there : (count capacity i : ℕ) (q : Name) → home_of (new_node count capacity i) q ≡ None
nothing_there count capacity i q = no_table (q.home == i) (q.serial == 0) q.serial

nothing_boxed : (i k count capacity : ℕ) → boxes_from i k (new_node count capacity) ≡ []
nothing_boxed i zero count capacity = refl
nothing_boxed i (suc k) count capacity = nothing_boxed (i + 1) k count capacity

pub all_start : (count capacity : ℕ) → AllNodesHold (new_world count capacity) (λ q. []) []
all_start count capacity = record {
  fits = fits_start count capacity;
  agrees = λ i q. ap (λ o. expected o None) (nothing_there count capacity i q);
  sections = λ i. record { each = λ q. tt; waiting = tt };
  cached = λ i. record { cached = λ q size c. absurd c; held = λ q r e m. absurd (cc); others = λ q size c. absurd c; once = tt };
  addressed = addressed_start count capacity;
  asks = λ i. tt;
  named_sizes = λ i. record { mapped = λ q m e. absurd (cc); cached = λ q size c. absurd c };
  sizes = λ i q r e. absurd (cc);
  mail = tt;
  flies = record { boxed = subst (λ (l : List Piece). Moves [] l) (sym (nothing_boxed 0 count count capacity)) still; each = tt; came = λ i key. refl };
  coherent = λ q h e. absurd (let none = nothing_there count capacity q.home q in cc);
}

-- In words of views.
as_view : (q : Name) (h : Home) (array : List ℕ) (messages : List Message) (w : World) → table_of q w ≡ Some h → sight q h w.nodes messages array ≡ view q array messages w
as_view q h array messages w there = ap (λ o. sight q (table_or_blank o) w.nodes messages array) (sym there)

in_views : (w : World) (arrays : Name → List ℕ) (us : List Under) → AllNodesHold w arrays us → (q : Name) (h : Home) → table_of q w ≡ Some h → IsCoherent q.home (view q (arrays q) (messages_of us) w)
in_views w arrays us k q h there = subst (λ g. IsCoherent q.home g) (as_view q h (arrays q) (messages_of us) w there) (k.coherent q h there)

holds : (w : World) (arrays : Name → List ℕ) (us : List Under) → AllNodesHold w arrays us → Shows w arrays → RegionsHold w us arrays
holds w arrays us k shown = record { under_way = k.flies; mail = k.mail; coherent = in_views w arrays us k; records = shown }

go_on : (w v : World) (us : List Under) (arrays left : Name → List ℕ) (g : GoneOn w v us arrays left) → RegionsGoOn w v us g.under arrays left
go_on w v us arrays left g = record {
  there = λ q h there. let x = g.went q h there in (x.0, x.1, x.2);
  goes_on = λ q h there.
      let x = g.went q h there in
      subst (λ y. GoesOn q.home y (view q (left q) (messages_of g.under) v)) (as_view q h (arrays q) (messages_of us) w there)
      (subst (λ y. GoesOn q.home (sight q h w.nodes (messages_of us) (arrays q)) y) (as_view q x.0 (left q) (messages_of g.under) v x.1) x.3);
  made = λ q h none there. let x = g.made q h none there in (x.0, x.1 ∙ as_view q h (left q) (messages_of g.under) v there);
}

-- A step keeps what the records show.
no_tables : (w : World) (arrays : Name → List ℕ) (us : List Under) → AllNodesHold w arrays us → (i : ℕ) (q : Name) (r : Remote) → (w.nodes i).remotes q ≡ Some r → home_of (w.nodes i) q ≡ None
no_tables w arrays us k i q r e = no_home i (w.nodes i) q r e (k.fits i)

shown_on : (w : World) (arrays left : Name → List ℕ) (us : List Under) (e : Event) → is_enabled e w ≡ true → AllNodesHold w arrays us → (g : GoneOn w (step e w).world us arrays left) → Shows w arrays → Shows (step e w).world left
shown_on w arrays left us e may k g shown =
    records_show w (step e w).world arrays left us g.under k g.whole (in_views w arrays us k) (in_views (step e w).world left g.under g.whole) (go_on w (step e w).world us arrays left g)
    (records_turn w (step e w) (turn_of w e may) (no_tables w arrays us k)) shown

-- A run, with what is under way in it.
pub record NodesHold (w : World) (arrays : Name → List ℕ) : Type 0 where
  pub under : List Under
  pub whole : AllNodesHold w arrays under
  pub shown : Shows w arrays

run_on : (w : World) (arrays : Name → List ℕ) (es : List Event) → IsRunFrom w es → NodesHold w arrays → NodesHold (world_after w es) (λ q. array_from q w es (arrays q))
run_on w arrays [] h k = k
run_on w arrays (e ∷ es) h k =
    let g = event_on w arrays k.under e h.0 k.whole in
    run_on (step e w).world (λ q. array_after q e w (arrays q)) es h.1 (record { under = g.under; whole = g.whole; shown = shown_on w arrays _ k.under e h.0 k.whole g k.shown })

pub nodes_hold : (count capacity : ℕ) (run : List Event) → IsRunFrom (new_world count capacity) run → NodesHold (world_of count capacity run) (λ q. array_of q count capacity run)
nodes_hold count capacity run r = run_on (new_world count capacity) (λ q. []) run r (record { under = []; whole = all_start count capacity; shown = λ i q r e. absurd (cc) })

pub count_in_run : (count capacity : ℕ) (run : List Event) → IsRunFrom (new_world count capacity) run → (world_of count capacity run).count ≡ count
count_in_run count capacity run r = run_count (new_world count capacity) run r

-- whatever is under way and holds of all regions
pub with_regions : (w : World) (us : List Under) (arrays before : Name → List ℕ) (k : NodesHold w before) → RegionsHold w us arrays → AllNodesHold w arrays us
with_regions w us arrays before k h = let x = k.whole in record {
  fits = x.fits;
  agrees = x.agrees;
  sections = x.sections;
  cached = x.cached;
  addressed = x.addressed;
  asks = x.asks;
  named_sizes = x.named_sizes;
  sizes = x.sizes;
  mail = h.mail;
  flies = h.under_way;
  coherent = λ q t there. subst (λ g. IsCoherent q.home g) (sym (as_view q t (arrays q) (messages_of us) w there)) (h.coherent q t there);
}

pub regions_start : (count capacity : ℕ) → RegionsHold (new_world count capacity) [] (λ q. [])
regions_start count capacity = holds _ _ _ (all_start count capacity) (λ i q r e. absurd (cc))

pub regions_step : AfterRuns EventsKeepRegions
regions_step count capacity run r e may us arrays h =
    let w = world_of count capacity run in
    let k = nodes_hold count capacity run r in
    let a = with_regions w us arrays _ k h in
    let g = event_on w arrays us e may a in record { under = g.under; hold = holds _ _ _ g.whole (shown_on w arrays _ us e may a g h.records); go_on = go_on w (step e w).world us arrays _ g }

pub regions_in_runs : (count capacity : ℕ) (run : List Event) → IsRunFrom (new_world count capacity) run → (us : List Under) × RegionsHold (world_of count capacity run) us (λ q. array_of q count capacity run)
regions_in_runs count capacity run r = let k = nodes_hold count capacity run r in (k.under, holds _ _ _ k.whole k.shown)
