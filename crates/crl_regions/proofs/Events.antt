-- Each event of a run keeps what holds of all nodes, and is a run of each region's events.
use Rattle.std.proofs.Common.{◌≡◌, ℕ, ◌<◌, true, false, None, Some, Option, List, ◌++◌, ◌&&◌, map, length, if◌then◌else◌, refl, ap, sym, ◌∙◌, subst}
use Rattle.std.specs.List.{AllByRecursion}
use Rattle.std.proofs.lemmas.Bool.{cond-true, cond-false, eq-eqb, ne_eqb, and_from}
use Rattle.crl_model.specs.declared.name.Name.{Name}
use Rattle.crl_model.specs.declared.call.Call.{Call}
use Rattle.crl_model.specs.declared.event.Event.{Event}
use Rattle.crl_model.specs.declared.event.Event.TheVariants as event
use Rattle.crl_model.specs.declared.message.Message.{Message}
use Rattle.crl_model.specs.Names.{at_node}
use Rattle.crl_protocol.specs.Places.{find_all, Took, Taken, take_out}
use Rattle.crl_protocol.specs.Home.{Home, bytes_after}
use Rattle.crl_protocol.specs.Node.{Node, Outcome, only, Done, is_mine, home_of, Activity, Free, Waiting, Ready}
use Rattle.crl_protocol.specs.Verdict.{verdict}
use Rattle.crl_protocol.specs.Calls.{node_calls}
use Rattle.crl_protocol.specs.Handlers.{node_handles}
use Rattle.crl_protocol.specs.World.{World, boxes_from, pieces_in_boxes, collects, steps_node, is_call}
use Rattle.crl_pieces.specs.Pieces.{is_missing, is_complete, joined}
use Rattle.crl_protocol.specs.Parcels.{Piece, PartsGathered, Key, key_eq, key_of, load_of, with_load, slots_or, at_key, fits_size}
use Rattle.crl_protocol.specs.Receiving.{size_for, slots_with, gathers_piece, receives_part, receives_as, receives}
use Rattle.crl_flight.specs.Flight.{Under, posted, IsFlight, messages_of}
use Rattle.crl_flight.proofs.Laws.{flight_as, took_left}
use Rattle.crl_flight.specs.Coming.{put_at, IsNext, PieceComes, plain, last, gathers}
use Rattle.crl_flight.proofs.Laws.{comes}
use Rattle.crl_regions.proofs.Single.{took_message, alone_in, size_known}
use Rattle.crl_flight.specs.Flight.{still}
use Rattle.crl_coherence.specs.Region.{Flying, elsewhere}
use Rattle.crl_coherence.specs.Coherent.{created}
use Rattle.crl_coherence.proofs.Laws.{took_some, took_none}
use Rattle.crl_deeds.specs.Deeds.{Calls, Hears, Deed}
use Rattle.crl_regions.specs.View.{UnderWay, flying, sight, table_of, tables_of, left_by, array_after}
use Rattle.crl_regions.specs.MailFits.{Tables, FitsTables, MailFits, AllMailFits}
use Rattle.crl_regions.specs.Steps.{GoesOn}
use Rattle.crl_regions.proofs.Moves.{boxes, flight_took, flight_same}
use Rattle.crl_regions.proofs.Acts.{Comes, Acts, nothing}
use Rattle.crl_regions.proofs.Lift.{finish}
use Rattle.crl_regions.proofs.Sections.{Local}
use Rattle.crl_regions.proofs.RegionDeeds.{Known, acts_deed, acts_call}
use Rattle.crl_regions.proofs.Mails.{mail_of_deed}
use Rattle.crl_regions.proofs.MappedOrCached.{IsMappedOrCached, mapped_or_cached_deed}
use Rattle.crl_regions.proofs.Sizes.{SizesFit, sizes_deed}
use Rattle.crl_regions.proofs.Asking.{WaitsAsking, asks_deed}
use Rattle.crl_regions.proofs.Addressed.{PlainSent, Addressed}
use Rattle.crl_regions.proofs.Carried.{of_node, node_here, node_there}
use Rattle.crl_regions.proofs.AllNodesHold.{AllNodesHold, local, passes, own_tables}
use Rattle.crl_regions.proofs.Steps.{StepFits, all_stepped}
use Rattle.crl_deeds.proofs.Laws.{call_deed, message_deed, deed_frame, all_took, took_at}
use Rattle.crl_deeds.specs.NodeFacts.{seen, OwnFits, Fits, ComesIn}
use Rattle.crl_deeds.specs.Turns.{Frame, HeldIn}
use Rattle.crl_deeds.specs.Counts.{SectionsFit}

-- what is known of all nodes after an event, and what the event was of a region that was there, and of one that wasn't
pub record GoneOn (w v : World) (us : List Under) (arrays left : Name → List ℕ) : Type 0 where
  pub under : List Under
  pub whole : AllNodesHold v left under
  pub went : (q : Name) (h : Home) → table_of q w ≡ Some h → (k : Home) × (table_of q v ≡ Some k) × (k.size ≡ h.size) × GoesOn q.home (sight q h w.nodes (messages_of us) (arrays q)) (sight q k v.nodes (messages_of under) (left q))
  pub made : (q : Name) (h : Home) → table_of q w ≡ None → table_of q v ≡ Some h → (size : ℕ) × (created w.count size (λ j. size) ≡ sight q h v.nodes (messages_of under) (left q))

of_outcome : (w : World) (arrays : Name → List ℕ) (i : ℕ) (e : Event) (inbox : List Piece) (parcels : PartsGathered) (us left : List Under) (o : Outcome) (came : Name → Option Flying) (written : Name → Option (List ℕ))
    → AllNodesHold w arrays us → StepFits w i e inbox parcels us left o came written → GoneOn w (steps_node i e o w).world us arrays (λ q. bytes_after (written q) (arrays q))
of_outcome w arrays i e inbox parcels us left o came written k x =
    let both = all_stepped w arrays i e inbox parcels us left o came written k x in
    record { under = left ++ map posted o.posts; whole = both.0; went = λ q h there. let l = both.1 q h there in (l.home, l.there, l.size, l.goes_on); made = both.2 }

pub nothing_on : (w : World) (arrays : Name → List ℕ) (us : List Under) → AllNodesHold w arrays us → GoneOn w w us arrays arrays
nothing_on w arrays us k = record { under = us; whole = k; went = λ q h there. (h, there, refl, finish q.home _ _ _ elsewhere refl (λ j. refl) refl still); made = λ q h none there. absurd (cc) }

own_nothing : (i : ℕ) (n : Node) → Fits i n → (name : Name) → is_mine n name ≡ true → n.remotes name ≡ None
own_nothing i n f name mine = let own = subst (λ b. OwnFits b (seen n name)) mine (f.each name).own in own.nothing

-- the boxes where no message is taken out
stays_flying : (w : World) (i : ℕ) (us : List Under) → UnderWay w us → IsFlight us (boxes_from 0 w.count (at_node w.nodes i (w.nodes i))) (λ j. (at_node w.nodes i (w.nodes i) j).parcels)
stays_flying w i us f =
    flight_as us (boxes_from 0 w.count (at_node w.nodes i (w.nodes i))) (λ j. (w.nodes j).parcels) (λ j. (at_node w.nodes i (w.nodes i) j).parcels)
    (λ j key. of_node w.nodes i (w.nodes i) (λ l (n : Node). n.parcels key ≡ (w.nodes l).parcels key) refl (λ l other. refl) j)
    (subst (λ b. IsFlight us b (λ j. (w.nodes j).parcels)) (flight_same w.count w.nodes (at_node w.nodes i (w.nodes i)) (λ l few. sym (of_node w.nodes i (w.nodes i) (λ j n. boxes n ≡ boxes (w.nodes j)) refl (λ j other. refl) l))) f)

-- Node i takes a step from n on: what holds of each node by itself.
abbrev pub StepKeeps : World → Type 0
StepKeeps v = ((j : ℕ) → Fits j (v.nodes j)) × Addressed v × ((j : ℕ) → SectionsFit (v.nodes j))

pub call_on : (w : World) (arrays : Name → List ℕ) (us : List Under) (i : ℕ) (e : Event) (c : Call) → i < w.count → (w.nodes i).activity ≡ Free → is_call (w.nodes i) c (verdict (w.nodes i) c) ≡ true → AllNodesHold w arrays us
    → StepKeeps (steps_node i e (node_calls c (w.nodes i)) w).world → GoneOn w (steps_node i e (node_calls c (w.nodes i)) w).world us arrays (λ q. array_after q (event.Call i c) w (arrays q))
call_on w arrays us i e c few free may k keeps =
    let d = call_deed (w.nodes i) c in
    of_outcome w arrays i e (w.nodes i).inbox (w.nodes i).parcels us us (node_calls c (w.nodes i)) (λ q. None) (λ q. left_by q (event.Call i c) w) k (record {
      few = few;
      fits = keeps.0;
      addressed = keeps.1;
      sections = keeps.2;
      asks = asks_deed i (w.nodes i) (Calls c) _ d free (local w arrays us i k) (k.asks i);
      named_sizes = sizes_deed (tables_of w) i (w.nodes i) (Calls c) _ d tt (own_tables w arrays us i k) (k.named_sizes i);
      acts = λ q. acts_call (tables_of w) i (w.nodes i) c free may (local w arrays us i k) q;
      frame = deed_frame (w.nodes i) (Calls c) _ d;
      cached = mapped_or_cached_deed (w.nodes i) (Calls c) _ d (own_nothing i (w.nodes i) (k.fits i)) (k.fits i).fresh (k.cached i);
      left_mail = k.mail;
      flies = stays_flying w i us k.flies;
      comes = λ q. refl;
      mail = λ tables f. mail_of_deed i w.count tables (w.nodes i) (Calls c) _ d tt f;
    })

acts_collected : (K : Name → ℕ → Type 0) (i : ℕ) (n : Node) (a : Activity) (q : Name) → let o = collects a n in Acts K q i None None n o.node o.posts
acts_collected K i n Free q = nothing refl refl refl refl refl refl
acts_collected K i n (Waiting awaited) q = nothing refl refl refl refl refl refl
acts_collected K i n (Ready answer) q = nothing refl refl refl refl refl refl

frame_collected : (n : Node) (a : Activity) → Frame n (collects a n).node
frame_collected n Free = record { me = refl; nodes = refl; capacity = refl; inbox = refl; outbox = refl; parcels = refl }
frame_collected n (Waiting awaited) = record { me = refl; nodes = refl; capacity = refl; inbox = refl; outbox = refl; parcels = refl }
frame_collected n (Ready answer) = record { me = refl; nodes = refl; capacity = refl; inbox = refl; outbox = refl; parcels = refl }

cached_collected : (n : Node) (a : Activity) → IsMappedOrCached n → IsMappedOrCached (collects a n).node
cached_collected n Free h = h
cached_collected n (Waiting awaited) h = h
cached_collected n (Ready answer) h = h

sizes_collected : (tables : Tables) (n : Node) (a : Activity) → SizesFit tables n → SizesFit tables (collects a n).node
sizes_collected tables n Free h = h
sizes_collected tables n (Waiting awaited) h = h
sizes_collected tables n (Ready answer) h = record { mapped = h.mapped; cached = h.cached }

asks_collected : (n : Node) (a : Activity) → n.activity ≡ a → WaitsAsking n → WaitsAsking (collects a n).node
asks_collected n Free e h = h
asks_collected n (Waiting awaited) e h = h
asks_collected n (Ready answer) e h = tt

mail_collected : (tables : Tables) (n : Node) (a : Activity) → AllMailFits tables (collects a n).posts
mail_collected tables n Free = tt
mail_collected tables n (Waiting awaited) = tt
mail_collected tables n (Ready answer) = tt

pub collect_on : (w : World) (arrays : Name → List ℕ) (us : List Under) (i : ℕ) (e : Event) → i < w.count → AllNodesHold w arrays us
    → StepKeeps (steps_node i e (collects (w.nodes i).activity (w.nodes i)) w).world → GoneOn w (steps_node i e (collects (w.nodes i).activity (w.nodes i)) w).world us arrays arrays
collect_on w arrays us i e few k keeps =
    of_outcome w arrays i e (w.nodes i).inbox (w.nodes i).parcels us us (collects (w.nodes i).activity (w.nodes i)) (λ q. None) (λ q. None) k (record {
      few = few;
      fits = keeps.0;
      addressed = keeps.1;
      sections = keeps.2;
      asks = asks_collected (w.nodes i) (w.nodes i).activity refl (k.asks i);
      named_sizes = sizes_collected (tables_of w) (w.nodes i) (w.nodes i).activity (k.named_sizes i);
      acts = λ q. acts_collected _ i (w.nodes i) (w.nodes i).activity q;
      frame = frame_collected (w.nodes i) (w.nodes i).activity;
      cached = cached_collected (w.nodes i) (w.nodes i).activity (k.cached i);
      left_mail = k.mail;
      flies = stays_flying w i us k.flies;
      comes = λ q. refl;
      mail = λ tables f. mail_collected tables (w.nodes i) (w.nodes i).activity;
    })

-- A message is handled.
-- A message that is under way is handled at its addressee, whose gathering and inbox are these now.
message_on : (w : World) (arrays : Name → List ℕ) (us left : List Under) (i : ℕ) (e : Event) (m : Message) (inbox : List Piece) (parcels : PartsGathered) → i < w.count → AllNodesHold w arrays us
    → m.addressee ≡ i → m.sender < w.count → AllByRecursion (ComesIn (w.nodes i).me) inbox → Took m (messages_of us) (messages_of left)
    → let n = record (w.nodes i) { inbox = inbox; parcels = parcels } in IsFlight left (boxes_from 0 w.count (at_node w.nodes i n)) (λ j. (at_node w.nodes i n j).parcels)
    → let o = node_handles m.sender m.kind n in StepKeeps (steps_node i e o w).world → GoneOn w (steps_node i e o w).world us arrays arrays
message_on w arrays us left i e m inbox parcels few k to from_few fitted took flies keeps =
    of_outcome w arrays i e inbox parcels us left (node_handles m.sender m.kind n) (λ q. flying q m) (λ q. None) k (record {
      few = few;
      fits = keeps.0;
      addressed = keeps.1;
      sections = keeps.2;
      asks = asks_deed i n (Hears m.sender m.kind) _ d tt local_n (k.asks i);
      named_sizes = sizes_deed tables i n (Hears m.sender m.kind) _ d mail_i (let own = own_tables w arrays us i k in record { there = own.there; live = own.live }) (let h = k.named_sizes i in record { mapped = h.mapped; cached = h.cached });
      acts = λ q. subst (λ a. Acts (Known tables) q i (flying q (record { sender = m.sender; addressee = a; kind = m.kind })) None n (node_handles m.sender m.kind n).node (node_handles m.sender m.kind n).posts) (sym to)
          (acts_deed tables i n (Hears m.sender m.kind) _ d (mail_i, passes w arrays us i m inbox parcels _ k to parts.0 took) local_n q);
      frame = deed_frame n (Hears m.sender m.kind) _ d;
      cached = mapped_or_cached_deed n (Hears m.sender m.kind) _ d (own_nothing i (w.nodes i) (k.fits i)) (k.fits i).fresh (k.cached i);
      left_mail = parts.1;
      flies = flies;
      comes = λ q. comes_of q (flying q m) refl;
      mail = λ after f. mail_of_deed i w.count after n (Hears m.sender m.kind) _ d from_few f;
    })
  where
    n : Node
    n = record (w.nodes i) { inbox = inbox; parcels = parcels }

    d : Deed n (Hears m.sender m.kind) (node_handles m.sender m.kind n)
    d = message_deed n m.sender m.kind

    tables : Tables
    tables = tables_of w

    parts : MailFits tables m × AllMailFits tables (messages_of left)
    parts = all_took (MailFits tables) took k.mail

    mail_i : FitsTables tables m.sender i m.kind
    mail_i = subst (λ a. FitsTables tables m.sender a m.kind) to parts.0

    comes_of : (q : Name) (o : Option Flying) → flying q m ≡ o → Comes (flying q m) (find_all (flying q) (messages_of us)) (find_all (flying q) (messages_of left))
    comes_of q None x = subst (λ c. Comes c (find_all (flying q) (messages_of us)) (find_all (flying q) (messages_of left))) (sym x) (sym (took_none (flying q) took x))
    comes_of q (Some f) x = subst (λ c. Comes c (find_all (flying q) (messages_of us)) (find_all (flying q) (messages_of left))) (sym x) (took_some (flying q) took f x)

    local_n : Local i n
    local_n = let l = local w arrays us i k in record {
      fits = record { me = l.fits.me; each = l.fits.each; cache = l.fits.cache; fresh = l.fits.fresh; inbox = fitted; outbox = l.fits.outbox };
      agrees = l.agrees;
      reads = l.reads;
      cached = l.cached;
      held = l.held;
    }

-- A piece is gathered, and nothing else happens.
gathered_on : (w : World) (arrays : Name → List ℕ) (us left : List Under) (i : ℕ) (e : Event) (inbox : List Piece) (parcels : PartsGathered) → i < w.count → AllNodesHold w arrays us
    → messages_of left ≡ messages_of us
    → let n = record (w.nodes i) { inbox = inbox; parcels = parcels } in IsFlight left (boxes_from 0 w.count (at_node w.nodes i n)) (λ j. (at_node w.nodes i n j).parcels)
    → StepKeeps (steps_node i e (only n Done) w).world → GoneOn w (steps_node i e (only n Done) w).world us arrays arrays
gathered_on w arrays us left i e inbox parcels few k same flies keeps =
    of_outcome w arrays i e inbox parcels us left (only (record (w.nodes i) { inbox = inbox; parcels = parcels }) Done) (λ q. None) (λ q. None) k (record {
      few = few;
      fits = keeps.0;
      addressed = keeps.1;
      sections = keeps.2;
      asks = k.asks i;
      named_sizes = (let h = k.named_sizes i in record { mapped = h.mapped; cached = h.cached });
      acts = λ q. nothing refl refl refl refl refl refl;
      frame = record { me = refl; nodes = refl; capacity = refl; inbox = refl; outbox = refl; parcels = refl };
      cached = k.cached i;
      left_mail = subst (λ ms. AllMailFits (tables_of w) ms) (sym same) k.mail;
      flies = flies;
      comes = λ q. ap (λ ms. find_all (flying q) ms) same;
      mail = λ tables f. tt;
    })

-- the node's gathering is changed at one key
parcels_put : (w : World) (i : ℕ) (inbox : List Piece) (key : Key) (v : Option (List (Option (List ℕ)))) (a : ℕ) → a ≡ i → let n = record (w.nodes i) { inbox = inbox; parcels = at_key (w.nodes i).parcels key v } in
    (j : ℕ) (x : Key) → (at_node w.nodes i n j).parcels x ≡ put_at (λ l. (w.nodes l).parcels) a key v j x
parcels_put w i inbox key v a same j x =
    of_node w.nodes i (record (w.nodes i) { inbox = inbox; parcels = at_key (w.nodes i).parcels key v }) (λ l (y : Node). y.parcels x ≡ put_at (λ z. (w.nodes z).parcels) a key v l x)
    (ap (λ b. if b && key_eq x key then v else (w.nodes i).parcels x) (sym (eq-eqb a i same)))
    (λ l other. sym (ap (λ b. if b && key_eq x key then v else (w.nodes l).parcels x) (ne_eqb a l (λ y. other (sym y ∙ same))))) j

-- what a piece does, in the three cases
received_plain : (p : Piece) (n : Node) → key_of p.message ≡ None → receives p n ≡ node_handles p.message.sender p.message.kind n
received_plain p n e = ap (λ o. receives_as o p n) e

received_key : (p : Piece) (n : Node) (key : Key) (size : ℕ) → key_of p.message ≡ Some key → size_for key.load key.name n ≡ Some size → fits_size size p ≡ true → is_missing p.index (slots_or p.pieces (n.parcels key)) ≡ true
    → receives p n ≡ gathers_piece key p (slots_with p (n.parcels key)) n
received_key p n key size e s f m = ap (λ o. receives_as o p n) e ∙ ap (λ o. receives_part key p o n) s ∙ cond-true (fits_size size p && is_missing p.index (slots_or p.pieces (n.parcels key))) _ _ (and_from _ _ f m)

-- a piece of an inbox is taken out of all boxes
pub box_took : (w : World) (i : ℕ) (p : Piece) (rest : List Piece) → i < w.count → Took p (w.nodes i).inbox rest → Took p (pieces_in_boxes w) (boxes_from 0 w.count (at_node w.nodes i (record (w.nodes i) { inbox = rest })))
box_took w i p rest few took =
    let n = record (w.nodes i) { inbox = rest } in
    flight_took p w.count i w.nodes (at_node w.nodes i n) few (subst (λ (x : Node). Took p (boxes (w.nodes i)) (boxes x)) (sym (node_here w.nodes i n)) (took_left (w.nodes i).outbox took)) (λ l other. ap boxes (sym (node_there w.nodes i n l other)))

-- the size of a message with bytes is known where it comes
pub key_passes : (w : World) (arrays : Name → List ℕ) (us : List Under) (i : ℕ) (u : Under) (others : List Under) (key : Key) (inbox : List Piece) (parcels : PartsGathered) → AllNodesHold w arrays us → u.message.addressee ≡ i → Took u us others
    → key_of u.message ≡ Some key → size_for key.load key.name (record (w.nodes i) { inbox = inbox; parcels = parcels }) ≡ Some (length (load_of u.message.kind))
key_passes w arrays us i u others key inbox parcels k to took of_u =
    let fits = (all_took (MailFits (tables_of w)) (took_message took) k.mail).0 in
    size_known i (tables_of w) (record (w.nodes i) { inbox = inbox; parcels = parcels }) u.message.sender key u.message.kind of_u (subst (λ a. FitsTables (tables_of w) u.message.sender a u.message.kind) to fits)
    (passes w arrays us i u.message inbox parcels _ k to fits (took_message took)) (λ name h there at_i. subst (λ j. home_of (w.nodes j) name ≡ Some h) at_i there)

pub handle_on : (w : World) (arrays : Name → List ℕ) (us : List Under) (i place : ℕ) (e : Event) (t : Taken Piece) → i < w.count → take_out place (w.nodes i).inbox ≡ Some t → AllNodesHold w arrays us
    → let o = receives t.taken (record (w.nodes i) { inbox = t.rest }) in StepKeeps (steps_node i e o w).world → GoneOn w (steps_node i e o w).world us arrays arrays
handle_on w arrays us i place e t few out k fits = go (comes us (pieces_in_boxes w) after (λ j. (w.nodes j).parcels) t.taken k.flies (alone_in w.nodes tables arrays us k.mail k.coherent) under_way) fits
  where
    n : Node
    n = record (w.nodes i) { inbox = t.rest }

    after : List Piece
    after = boxes_from 0 w.count (at_node w.nodes i n)

    tables : Tables
    tables = tables_of w

    took : Took t.taken (w.nodes i).inbox t.rest
    took = took_at place (w.nodes i).inbox t out

    came : HeldIn (PlainSent w.count) i t.taken
    came = (all_took (HeldIn (PlainSent w.count) i) took (k.addressed i).inbox).0

    to : t.taken.message.addressee ≡ i
    to = came.1

    from_few : t.taken.message.sender < w.count
    from_few = came.0.1.0.sender

    fitted : AllByRecursion (ComesIn (w.nodes i).me) t.rest
    fitted = (all_took (ComesIn (w.nodes i).me) took (k.fits i).inbox).1

    under_way : Took t.taken (pieces_in_boxes w) after
    under_way = box_took w i t.taken t.rest few took

    -- the boxes don't change with the gathering
    boxes_with : (g : PartsGathered) → after ≡ boxes_from 0 w.count (at_node w.nodes i (record n { parcels = g }))
    boxes_with g = flight_same w.count (at_node w.nodes i n) (at_node w.nodes i (record n { parcels = g }))
        (λ l less. of_node w.nodes i n (λ j y. boxes y ≡ boxes (at_node w.nodes i (record n { parcels = g }) j)) (sym (ap boxes (node_here w.nodes i (record n { parcels = g })))) (λ j other. sym (ap boxes (node_there w.nodes i (record n { parcels = g }) j other))) l)

    same_parcels : (j : ℕ) (x : Key) → (at_node w.nodes i n j).parcels x ≡ (w.nodes j).parcels x
    same_parcels j x = of_node w.nodes i n (λ l (y : Node). y.parcels x ≡ (w.nodes l).parcels x) refl (λ l other. refl) j

    with_key : (key : Key) (v : Option (List (Option (List ℕ)))) (left : List Under) → IsFlight left after (put_at (λ j. (w.nodes j).parcels) t.taken.message.addressee key v)
        → let m = record n { parcels = at_key n.parcels key v } in IsFlight left (boxes_from 0 w.count (at_node w.nodes i m)) (λ j. (at_node w.nodes i m j).parcels)
    with_key key v left f =
        flight_as left _ _ _ (parcels_put w i t.rest key v t.taken.message.addressee to)
        (subst (λ b. IsFlight left (b) (put_at (λ j. (w.nodes j).parcels) t.taken.message.addressee key v)) (boxes_with (at_key n.parcels key v)) f)

    Ends : Outcome → Type 0
    Ends o = StepKeeps (steps_node i e o w).world → GoneOn w (steps_node i e o w).world us arrays arrays

    -- the piece is taken in
    taken_in : (key : Key) (u : Under) (others : List Under) → IsNext us (λ j. (w.nodes j).parcels) t.taken key u others → receives t.taken n ≡ gathers_piece key t.taken (slots_with t.taken (n.parcels key)) n
    taken_in key u others x =
        received_key t.taken n key (length (load_of u.message.kind)) x.of_key (key_passes w arrays us i u others key t.rest (w.nodes i).parcels k (sym x.addressee ∙ to) x.took x.of_message) x.fits
        (subst (λ a. is_missing t.taken.index (slots_or t.taken.pieces ((w.nodes a).parcels key)) ≡ true) to x.missing)

    go : PieceComes us after (λ j. (w.nodes j).parcels) t.taken → Ends (receives t.taken n)
    go (plain u others x none same f) =
        subst Ends (sym (received_plain t.taken n none))
        (message_on w arrays us others i e t.taken.message t.rest (w.nodes i).parcels few k to from_few fitted
        (subst (λ m. Took m (messages_of us) (messages_of others)) (sym same) (took_message x)) (flight_as others _ _ _ same_parcels f))
    go (last key u others x full whole f) =
        let at_i : is_complete (slots_with t.taken (n.parcels key)) ≡ true = subst (λ a. is_complete (slots_with t.taken ((w.nodes a).parcels key)) ≡ true) to full in
        let kind_i : with_load (joined (slots_with t.taken (n.parcels key))) t.taken.message.kind ≡ u.message.kind = subst (λ a. with_load (joined (slots_with t.taken ((w.nodes a).parcels key))) t.taken.message.kind ≡ u.message.kind) to whole in
        let m : Node = record n { parcels = at_key n.parcels key None } in
        let same : node_handles u.message.sender u.message.kind m ≡ receives t.taken n =
        sym (taken_in key u others x ∙ cond-true (is_complete (slots_with t.taken (n.parcels key))) _ _ at_i ∙ ap (λ s. node_handles s (with_load (joined (slots_with t.taken (n.parcels key))) t.taken.message.kind) m) x.sender ∙ ap (λ y. node_handles u.message.sender y m) kind_i) in
        subst Ends same (message_on w arrays us others i e u.message t.rest (at_key (w.nodes i).parcels key None) few k (sym x.addressee ∙ to) (subst (λ s. s < w.count) x.sender from_few) fitted (took_message x.took) (with_key key None others f))
    go (gathers key u others left x less same f) =
        let slots = slots_with t.taken (n.parcels key) in
        let at_i : is_complete slots ≡ false = subst (λ a. is_complete (slots_with t.taken ((w.nodes a).parcels key)) ≡ false) to less in
        let f_i = subst (λ a. IsFlight left after (put_at (λ j. (w.nodes j).parcels) t.taken.message.addressee key (Some (slots_with t.taken ((w.nodes a).parcels key))))) to f in
        let m : Node = record n { parcels = at_key n.parcels key (Some slots) } in
        let eq : only m Done ≡ receives t.taken n = sym (taken_in key u others x ∙ cond-false (is_complete slots) _ _ at_i) in
        subst Ends eq (gathered_on w arrays us left i e t.rest (at_key (w.nodes i).parcels key (Some slots)) few k same (with_key key (Some slots) left f_i))
