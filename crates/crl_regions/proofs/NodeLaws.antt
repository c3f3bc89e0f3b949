-- What is known of the nodes of a run and of what comes to them.
use Rattle.std.proofs.Common.{◌≡◌, ◌≢◌, inl, inr, ℕ, ◌<◌, Bool, true, false, ◌||◌, None, Some, Option, List, [], ◌∷◌, length, refl, ap, sym, ◌∙◌, subst}
use Rattle.std.proofs.lemmas.Bool.{cond-false, ne_eqb}
use Rattle.crl_model.specs.declared.name.Name.{Name}
use Rattle.crl_model.specs.declared.event.Event.{Event}
use Rattle.crl_model.specs.declared.directory.Asked.{Asked}
use Rattle.crl_model.specs.declared.message.Granted.{Granted}
use Rattle.crl_model.specs.declared.message.Message.{Message}
use Rattle.crl_model.specs.Names.{at_node}
use Rattle.crl_model.specs.declared.message.Kind.{Kind}
use Rattle.crl_model.specs.declared.message.Kind.TheVariants as kind
use Rattle.crl_pieces.specs.Pieces.{is_missing, is_complete, joined}
use Rattle.crl_protocol.specs.Places.{Took}
use Rattle.crl_protocol.specs.Home.{Home}
use Rattle.crl_protocol.specs.Remote.{Remote, grant_fits}
use Rattle.crl_protocol.specs.Node.{Node, Activity, Waiting, ForSection, is_mine, home_of}
use Rattle.crl_protocol.specs.Handlers.{is_queued}
use Rattle.crl_protocol.specs.Parcels.{Piece, Key, key_of, load_of, with_load, slots_or}
use Rattle.crl_protocol.specs.Receiving.{slots_with}
use Rattle.crl_protocol.specs.World.{World, boxes_from, pieces_in_boxes, new_world, world_of, IsRunFrom}
use Rattle.crl_flight.specs.Flight.{Under, messages_of}
use Rattle.crl_flight.specs.Coming.{PieceComes, plain, last, gathers, IsNext}
use Rattle.crl_flight.proofs.Laws.{comes}
use Rattle.crl_coherence.proofs.Laws.{writer_alone}
use Rattle.crl_regions.specs.MailFits.{FitsTables, MailFits}
use Rattle.crl_regions.specs.Reached.{AfterRuns, SectionsAreTheTables, WriteSectionsAreAlone, SizesAreKnown, AskersWait, WaitersAsk, MessagesMeetTests, PiecesAreTakenIn, MakesFitting, WholeMessagesMeetTests}
use Rattle.crl_safety.specs.Tests.{MeetsTest, PieceFits}
use Rattle.crl_regions.specs.View.{side, table_of, tables_of, table_or_blank, view, array_of}
use Rattle.crl_regions.proofs.Noted.{section_noted, open_table}
use Rattle.crl_regions.proofs.Addressed.{PlainSent}
use Rattle.crl_regions.proofs.Asking.{AsksFor, asks_at}
use Rattle.crl_regions.proofs.AllNodesHold.{AllNodesHold, passes}
use Rattle.crl_regions.proofs.Events.{key_passes, box_took}
use Rattle.crl_regions.proofs.Messages.{Passes, no_grant}
use Rattle.crl_regions.proofs.Single.{alone_in, took_message}
use Rattle.crl_regions.proofs.Runs.{nodes_hold, with_regions, regions_in_runs}
use Rattle.crl_deeds.specs.NodeFacts.{NoOwn, QueueFits, AskingFits}
use Rattle.crl_deeds.specs.Turns.{HeldIn}
use Rattle.crl_deeds.proofs.Laws.{all_took, is_cached}

-- The sections that a node notes are those of the region.
pub sections_are_tables : AfterRuns SectionsAreTheTables
sections_are_tables count capacity run r i q array messages = section_noted _ _ _ array messages i q (nodes_hold count capacity run r).whole

-- A write section is alone.
pub write_alone : AfterRuns WriteSectionsAreAlone
write_alone count capacity run r q i j apart writes =
    let w = world_of count capacity run in
    let n = nodes_hold count capacity run r in
    let array = array_of q count capacity run in
    let t = open_table w _ n.under i q n.whole (λ closed. let both = sym writes ∙ closed in cc) in
    let h = (regions_in_runs count capacity run r) in
    sym (section_noted w _ n.under array (messages_of h.0) j q n.whole)
    ∙ writer_alone q.home (view q array (messages_of h.0) w) i j (h.1.coherent q t.0 t.1) apart (section_noted w _ n.under array (messages_of h.0) i q n.whole ∙ writes)

-- A size that a node has is the region's.
pub sizes_known : AfterRuns SizesAreKnown
sizes_known count capacity run r = let k = (nodes_hold count capacity run r).whole in record {
  record_of = λ i q x e. k.sizes i q x e;
  mapped = λ i q m e. (k.named_sizes i).mapped q m e;
  cached = λ i q size e. (k.named_sizes i).cached q size (is_cached q ((world_of count capacity run).nodes i).cache size e);
}

-- A node that asks waits for that section.
asks_waits : (size : ℕ) (o : Option Remote) (q : Name) (a : Activity) → AskingFits q o a → (side size o).asking ≢ None → a ≡ Waiting (ForSection q)
asks_waits size None q a f n = absurd (n refl)
asks_waits size (Some r) q a (inl none) n = absurd (n none)
asks_waits size (Some r) q a (inr waits) n = waits

not_own : (me : ℕ) (queue : List Asked) → NoOwn me queue → is_queued me queue ≡ false
not_own me [] h = refl
not_own me (a ∷ queue) h = ap (λ b. b || is_queued me queue) h.0 ∙ not_own me queue h.1

queued_waits : (me : ℕ) (o : Option Home) (q : Name) (a : Activity) → QueueFits me q o a → is_queued me (table_or_blank o).queue ≡ true → a ≡ Waiting (ForSection q)
queued_waits me None q a f e = cc
queued_waits me (Some h) q a (one, inl none) e = absurd (let no = not_own me h.queue none in cc)
queued_waits me (Some h) q a (one, inr waits) e = waits

other_waits : (count capacity : ℕ) (run : List Event) → IsRunFrom (new_world count capacity) run → (i : ℕ) (q : Name) (array : List ℕ) (messages : List Message) → ((view q array messages (world_of count capacity run)).remotes i).asking ≢ None
    → ((world_of count capacity run).nodes i).activity ≡ Waiting (ForSection q)
other_waits count capacity run r i q array messages asks =
    let w = world_of count capacity run in
    let k = (nodes_hold count capacity run r).whole in asks_waits (table_or_blank (table_of q w)).size ((w.nodes i).remotes q) q (w.nodes i).activity ((k.fits i).each q).asking asks

home_waits : (count capacity : ℕ) (run : List Event) → IsRunFrom (new_world count capacity) run → (q : Name) (array : List ℕ) (messages : List Message) → is_queued q.home (view q array messages (world_of count capacity run)).home.queue ≡ true
    → ((world_of count capacity run).nodes q.home).activity ≡ Waiting (ForSection q)
home_waits count capacity run r q array messages queued =
    let w = world_of count capacity run in
    let k = (nodes_hold count capacity run r).whole in
    queued_waits q.home (table_of q w) q (w.nodes q.home).activity (subst (λ me. QueueFits me q (table_of q w) (w.nodes q.home).activity) (k.fits q.home).me ((k.fits q.home).each q).queue) queued

-- And one that waits has asked.
some_of : (o : Option Bool) → o ≢ None → (write : Bool) × (o ≡ Some write)
some_of None n = absurd (n refl)
some_of (Some write) n = (write, refl)

asks_there : (me size : ℕ) (o : Option Home) (r : Option Remote) → o ≡ None → AsksFor me o r → (write : Bool) × ((side size r).asking ≡ Some write)
asks_there me size None (Some r) e a = some_of r.asking a
asks_there me size None None e a = absurd a
asks_there me size (Some h) r e a = cc

waits_elsewhere : (count capacity : ℕ) (run : List Event) → IsRunFrom (new_world count capacity) run → (i : ℕ) (q : Name) (array : List ℕ) (messages : List Message) → i ≢ q.home → ((world_of count capacity run).nodes i).activity ≡ Waiting (ForSection q)
    → (write : Bool) × (((view q array messages (world_of count capacity run)).remotes i).asking ≡ Some write)
waits_elsewhere count capacity run r i q array messages other waits =
    let w = world_of count capacity run in
    let k = (nodes_hold count capacity run r).whole in
    let none : home_of (w.nodes i) q ≡ None = cond-false (is_mine (w.nodes i) q) _ _ (ne_eqb q.home (w.nodes i).me (λ x. other (sym (k.fits i).me ∙ sym x))) in
    asks_there (w.nodes i).me (table_or_blank (table_of q w)).size (home_of (w.nodes i) q) ((w.nodes i).remotes q) none (asks_at (w.nodes i) (w.nodes i).activity q waits (k.asks i))

asks_own : (me : ℕ) (o : Option Home) (r : Option Remote) → ((x : Remote) → r ≡ Some x → (h : Home) × (o ≡ Some h)) → AsksFor me o r → is_queued me (table_or_blank o).queue ≡ true
asks_own me (Some h) r f a = a
asks_own me None None f a = absurd a
asks_own me None (Some x) f a = absurd (let t = (f x refl).1 in cc)

waits_at_home : (count capacity : ℕ) (run : List Event) → IsRunFrom (new_world count capacity) run → (q : Name) (array : List ℕ) (messages : List Message) → ((world_of count capacity run).nodes q.home).activity ≡ Waiting (ForSection q)
    → is_queued q.home (view q array messages (world_of count capacity run)).home.queue ≡ true
waits_at_home count capacity run r q array messages waits =
    let w = world_of count capacity run in
    let k = (nodes_hold count capacity run r).whole in
    subst (λ me. is_queued me (table_or_blank (table_of q w)).queue ≡ true) (k.fits q.home).me
    (asks_own (w.nodes q.home).me (table_of q w) ((w.nodes q.home).remotes q) (λ x f. let s = k.sizes q.home q x f in (s.0, s.1)) (asks_at (w.nodes q.home) (w.nodes q.home).activity q waits (k.asks q.home)))

pub askers_wait : AfterRuns AskersWait
askers_wait count capacity run r = record { other = other_waits count capacity run r; home = home_waits count capacity run r }

pub waiters_ask : AfterRuns WaitersAsk
waiters_ask count capacity run r = record { other = waits_elsewhere count capacity run r; home = waits_at_home count capacity run r }

-- A message that is under way meets the test of its handler.
grant_there : (granted : Granted) (size : ℕ) (o : Option Remote) → grant_fits granted (side size o) ≡ true → (r : Remote) × (o ≡ Some r) × (grant_fits granted r ≡ true)
grant_there granted size None e = absurd (no_grant granted size e)
grant_there granted size (Some r) e = (r, refl, e)

meets : (w : World) (arrays : Name → List ℕ) (us : List Under) (m : Message) (rest : List Message) → AllNodesHold w arrays us → Took m (messages_of us) rest → MeetsTest (w.nodes m.addressee) m.sender m.kind
meets w arrays us m rest k took = go m.kind fits (passes w arrays us m.addressee m (w.nodes m.addressee).inbox (w.nodes m.addressee).parcels rest k refl fits took)
  where
    n : Node
    n = w.nodes m.addressee

    fits : MailFits (tables_of w) m
    fits = (all_took (MailFits (tables_of w)) took k.mail).0

    go : (x : Kind) → FitsTables (tables_of w) m.sender m.addressee x → Passes m.sender x n → MeetsTest n m.sender x
    go (kind.Ask name write have) f p = ((f.2.0, subst (λ j. home_of (w.nodes j) name ≡ Some f.2.0) f.0 f.2.1), p.0)
    go (kind.Grant name version granted) f p = grant_there granted p.0 (n.remotes name) p.1
    go (kind.Return name version bytes) f p = let there = subst (λ j. home_of (w.nodes j) name ≡ Some f.2.0) f.0 f.2.1 in (f.2.0, there, (p f.2.0 there).0)
    go (kind.Release name version bytes) f p = let there = subst (λ j. home_of (w.nodes j) name ≡ Some f.2.0) f.0 f.2.1 in (f.2.0, there, (p f.2.0 there).0)
    go (kind.InfoIs name t) f p = tt
    go (kind.InfoAsk name) f p = tt
    go (kind.Recall name version) f p = tt
    go (kind.Yield name version) f p = tt
    go (kind.DeleteAsk name) f p = tt
    go (kind.DeleteIs name t) f p = tt
    go (kind.Purge name) f p = tt
    go (kind.Purged name) f p = tt
    go (kind.Come round part) f p = tt
    go (kind.Result round fold) f p = tt

pub messages_meet : AfterRuns MessagesMeetTests
messages_meet count capacity run r us arrays h m rest took = meets _ arrays us m rest (with_regions _ us arrays _ (nodes_hold count capacity run r) h) took

-- A piece that comes is taken in.
piece_in : (w : World) (arrays : Name → List ℕ) (us : List Under) (i : ℕ) (p : Piece) (rest : List Piece) (key : Key) → AllNodesHold w arrays us → i < w.count → Took p (w.nodes i).inbox rest → key_of p.message ≡ Some key → PieceFits (w.nodes i) p key
piece_in w arrays us i p rest key k few took e =
    go (comes us (pieces_in_boxes w) _ (λ j. (w.nodes j).parcels) p k.flies (alone_in w.nodes (tables_of w) arrays us k.mail k.coherent) (box_took w i p rest few took))
  where
    to : p.message.addressee ≡ i
    to = (all_took (HeldIn (PlainSent w.count) i) took (k.addressed i).inbox).0.1

    next : (l : Key) (u : Under) (others : List Under) → IsNext us (λ j. (w.nodes j).parcels) p l u others → PieceFits (w.nodes i) p key
    next l u others x =
        let same : l ≡ key = (let both : Some l ≡ Some key = sym x.of_key ∙ e in cc) in
        subst (λ y. PieceFits (w.nodes i) p y) same (record {
          size = length (load_of u.message.kind);
          known = key_passes w arrays us i u others l (w.nodes i).inbox (w.nodes i).parcels k (sym x.addressee ∙ to) x.took x.of_message;
          fits = x.fits;
          missing = subst (λ a. is_missing p.index (slots_or p.pieces ((w.nodes a).parcels l)) ≡ true) to x.missing;
        })

    go : PieceComes us (boxes_from 0 w.count (at_node w.nodes i (record (w.nodes i) { inbox = rest }))) (λ j. (w.nodes j).parcels) p → PieceFits (w.nodes i) p key
    go (plain u others x none same f) = absurd (cc)
    go (last l u others x full whole f) = next l u others x
    go (gathers l u others left x less same f) = next l u others x

pub pieces_meet : AfterRuns PiecesAreTakenIn
pieces_meet count capacity run r i p rest key few took e = piece_in _ _ _ i p rest key (nodes_hold count capacity run r).whole few took e

-- And the message that it makes whole meets its test.
makes : (w : World) (arrays : Name → List ℕ) (us : List Under) (i : ℕ) (p : Piece) (rest : List Piece) → AllNodesHold w arrays us → i < w.count → Took p (w.nodes i).inbox rest → MakesFitting (w.nodes i) p
makes w arrays us i p rest k few took =
    go (comes us (pieces_in_boxes w) _ (λ j. (w.nodes j).parcels) p k.flies (alone_in w.nodes (tables_of w) arrays us k.mail k.coherent) (box_took w i p rest few took))
  where
    n : Node
    n = w.nodes i

    to : p.message.addressee ≡ i
    to = (all_took (HeldIn (PlainSent w.count) i) took (k.addressed i).inbox).0.1

    joins : Key → Kind
    joins key = with_load (joined (slots_with p (n.parcels key))) p.message.kind

    meets_as : (u : Under) (others : List Under) (x : Kind) → Took u us others → u.message.addressee ≡ i → p.message.sender ≡ u.message.sender → u.message.kind ≡ x → MeetsTest n p.message.sender x
    meets_as u others x t a s e =
        subst (λ y. MeetsTest n p.message.sender y) e
        (subst (λ y. MeetsTest n y u.message.kind) (sym s) (subst (λ j. MeetsTest (w.nodes j) u.message.sender u.message.kind) a (meets w arrays us u.message (messages_of others) k (took_message t))))

    same_key : (l key : Key) → key_of p.message ≡ Some l → key_of p.message ≡ Some key → l ≡ key
    same_key l key e f = let both : Some l ≡ Some key = sym e ∙ f in cc

    go : PieceComes us (boxes_from 0 w.count (at_node w.nodes i (record (w.nodes i) { inbox = rest }))) (λ j. (w.nodes j).parcels) p → MakesFitting n p
    go (plain u others x none same f) = record {
      whole = λ e. meets_as u others p.message.kind x (ap (λ (m : Message). m.addressee) (sym same) ∙ to) (ap (λ (m : Message). m.sender) same) (ap (λ (m : Message). m.kind) (sym same));
      last = λ key e full. absurd (cc);
    }
    go (last l u others x full whole f) = record {
      whole = λ e. absurd (let of_key = x.of_key in cc);
      last = λ key e done. subst (λ y. MeetsTest n p.message.sender (joins y)) (same_key l key x.of_key e)
          (meets_as u others (joins l) x.took (sym x.addressee ∙ to) x.sender (sym (subst (λ a. with_load (joined (slots_with p ((w.nodes a).parcels l))) p.message.kind ≡ u.message.kind) to whole)));
    }
    go (gathers l u others left x less same f) = record {
      whole = λ e. absurd (let of_key = x.of_key in cc);
      last = λ key e done. absurd (let not_done = subst (λ a. is_complete (slots_with p ((w.nodes a).parcels l)) ≡ false) to less in let is_done = subst (λ y. is_complete (slots_with p (n.parcels y)) ≡ true) (sym (same_key l key x.of_key e)) done in cc);
    }

pub whole_meet : AfterRuns WholeMessagesMeetTests
whole_meet count capacity run r i p rest few took = makes _ _ _ i p rest (nodes_hold count capacity run r).whole few took
