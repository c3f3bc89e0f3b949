-- What holds of all nodes holds after the outcome of one node.
use Rattle.std.proofs.Common.{◌≡◌, ◌≢◌, ◌⊎◌, inl, inr, ℕ, ◌<◌, ◌==◌, Bool, true, false, None, Some, Option, List, [], ◌∷◌, ◌++◌, map, replicate, refl, ap, sym, ◌∙◌, subst, append_assoc}
use Rattle.std.proofs.lemmas.Bool.{eqb-true}
use Rattle.crl_model.specs.declared.name.Name.{Name}
use Rattle.crl_model.specs.declared.event.Event.{Event}
use Rattle.crl_model.specs.declared.message.Told.{Told}
use Rattle.crl_model.specs.declared.message.Told.TheVariants as told
use Rattle.crl_model.specs.declared.message.Message.{Message}
use Rattle.crl_model.specs.declared.message.Kind.{Kind}
use Rattle.crl_model.specs.declared.message.Kind.TheVariants as kind
use Rattle.crl_model.specs.Names.{name_eq, at_node}
use Rattle.crl_protocol.specs.Places.{find_all}
use Rattle.crl_protocol.specs.Mail.{Mail}
use Rattle.crl_protocol.specs.Home.{Home, new_home, bytes_after}
use Rattle.crl_protocol.specs.Remote.{Remote, new_remote}
use Rattle.crl_protocol.specs.Sections.{section_at}
use Rattle.crl_protocol.specs.Node.{Node, Outcome, home_of}
use Rattle.crl_protocol.specs.World.{World, boxes_from, pieces_in_boxes, commits, steps_node}
use Rattle.crl_protocol.specs.Parcels.{Piece, Key, PartsGathered, pieces_in}
use Rattle.crl_flight.specs.Flight.{Under, posted, IsFlight, messages_of}
use Rattle.crl_flight.proofs.Laws.{posts_fly, messages_posted, flight_as}
use Rattle.crl_coherence.specs.Region.{Flying}
use Rattle.crl_coherence.specs.Coherent.{IsCoherent, created}
use Rattle.crl_coherence.proofs.Laws.{picks-append, same_or, took_nothing, picked_none}
use Rattle.crl_coherence.proofs.Laws.{runs_kept, created_kept}
use Rattle.crl_regions.specs.View.{if_about, mail_in, other_end, flown, flying, side, sight, table_of, tables_of}
use Rattle.crl_flight.specs.Flight.{Moves, still, moved}
use Rattle.crl_regions.proofs.Moves.{boxes, flight_more}
use Rattle.crl_regions.proofs.Acts.{expected, Comes, Acts, nothing, home_acts, side_acts, absent, made}
use Rattle.crl_regions.proofs.Sections.{away}
use Rattle.crl_regions.proofs.MappedOrCached.{IsMappedOrCached}
use Rattle.crl_regions.proofs.Addressed.{Addressed, NodesExistIf}
use Rattle.crl_safety.specs.Tests.{HasTable}
use Rattle.crl_regions.specs.MailFits.{Tables, ToldFits, FitsTables, MailFits, AllMailFits}
use Rattle.crl_regions.proofs.Asking.{WaitsAsking}
use Rattle.crl_regions.proofs.Sizes.{SizesFit}
use Rattle.crl_protocol.specs.Lifetimes.{Mapping}
use Rattle.crl_regions.proofs.Mails.{Sends}
use Rattle.crl_regions.proofs.Carried.{of_node, node_here, node_there}
use Rattle.crl_regions.proofs.Lift.{Lifted, Outcomes, lift, run_of}
use Rattle.crl_regions.proofs.AllNodesHold.{AllNodesHold, table_at, live_at}
use Rattle.crl_deeds.proofs.Laws.{same_name, append_nil, all_append}
use Rattle.crl_deeds.specs.NodeFacts.{SizeIs, Fits, IsCached}
use Rattle.crl_deeds.specs.Turns.{Frame}
use Rattle.crl_deeds.specs.Counts.{SectionsFit}

-- Tables grow: one that is there stays there, with its size.
abbrev pub Grows : (Name → Option Home) → (Name → Option Home) → Type 0
Grows before after = (q : Name) (h : Home) → before q ≡ Some h → (k : Home) × (after q ≡ Some k) × (k.size ≡ h.size)

told_grown : (t : Told) (q : Name) (before after : Tables) → Grows before after → ToldFits t (before q) → ToldFits t (after q)
told_grown (told.Live size) q before after g s = let k = g q s.0 s.1 in (k.0, k.1, k.2 ∙ s.2)
told_grown told.Unknown q before after g s = tt
told_grown told.Deleted q before after g s = tt

table_grown : (q : Name) (before after : Tables) → Grows before after → HasTable (before q) → HasTable (after q)
table_grown q before after g t = let k = g q t.0 t.1 in (k.0, k.1)

pub mail_grown : (before after : Tables) (from to : ℕ) (k : Kind) → Grows before after → FitsTables before from to k → FitsTables after from to k
mail_grown before after from to (kind.Ask name write have) g f = (f.0, f.1, table_grown name before after g f.2)
mail_grown before after from to (kind.Grant name version granted) g f = (f.0, f.1, table_grown name before after g f.2)
mail_grown before after from to (kind.Recall name version) g f = (f.0, f.1, table_grown name before after g f.2)
mail_grown before after from to (kind.Yield name version) g f = (f.0, f.1, table_grown name before after g f.2)
mail_grown before after from to (kind.Return name version bytes) g f = (f.0, f.1, table_grown name before after g f.2)
mail_grown before after from to (kind.Release name version bytes) g f = (f.0, f.1, table_grown name before after g f.2)
mail_grown before after from to (kind.InfoIs name t) g f = told_grown t name before after g f
mail_grown before after from to (kind.InfoAsk name) g f = tt
mail_grown before after from to (kind.DeleteAsk name) g f = tt
mail_grown before after from to (kind.DeleteIs name t) g f = tt
mail_grown before after from to (kind.Purge name) g f = tt
mail_grown before after from to (kind.Purged name) g f = tt
mail_grown before after from to (kind.Come round part) g f = tt
mail_grown before after from to (kind.Result round fold) g f = tt

pub sizes_grown : (before after : Tables) (n m : Node) → Grows before after → m.maps ≡ n.maps → m.cache ≡ n.cache → SizesFit before n → SizesFit after m
sizes_grown before after n m g maps cache h = record {
  mapped = λ q x e. let s = h.mapped q x (sym (ap (λ (f : Name → Option Mapping). f q) maps) ∙ e) in let k = g q s.0 s.1 in (k.0, k.1, k.2 ∙ s.2);
  cached = λ q size c. let s = h.cached q size (subst (IsCached q size) cache c) in let k = g q s.0 s.1 in (k.0, k.1, k.2 ∙ s.2);
}

pub all_grown : (before after : Tables) (ms : List Message) → Grows before after → AllMailFits before ms → AllMailFits after ms
all_grown before after [] g f = tt
all_grown before after (m ∷ ms) g f = (mail_grown before after m.sender m.addressee m.kind g f.0, all_grown before after ms g f.1)

-- Of a region that isn't there no mail is under way.
quiet_if : (tables : Tables) (name q : Name) (mail : Mail) → tables q ≡ None → HasTable (tables name) → if_about (name_eq name q) mail ≡ None
quiet_if tables name q mail none t = go (name_eq name q) refl
  where
    go : (b : Bool) → name_eq name q ≡ b → if_about b mail ≡ None
    go true e = absurd (let there : tables q ≡ Some t.0 = subst (λ x. tables x ≡ Some t.0) (same_name name q e) t.1 in cc)
    go false e = refl

quiet_kind : (tables : Tables) (q : Name) (from to : ℕ) (k : Kind) → tables q ≡ None → FitsTables tables from to k → mail_in q k ≡ None
quiet_kind tables q from to (kind.Ask name write have) none f = quiet_if tables name q _ none f.2
quiet_kind tables q from to (kind.Grant name version granted) none f = quiet_if tables name q _ none f.2
quiet_kind tables q from to (kind.Recall name version) none f = quiet_if tables name q _ none f.2
quiet_kind tables q from to (kind.Yield name version) none f = quiet_if tables name q _ none f.2
quiet_kind tables q from to (kind.Return name version bytes) none f = quiet_if tables name q _ none f.2
quiet_kind tables q from to (kind.Release name version bytes) none f = quiet_if tables name q _ none f.2
quiet_kind tables q from to (kind.InfoIs name t) none f = refl
quiet_kind tables q from to (kind.InfoAsk name) none f = refl
quiet_kind tables q from to (kind.DeleteAsk name) none f = refl
quiet_kind tables q from to (kind.DeleteIs name t) none f = refl
quiet_kind tables q from to (kind.Purge name) none f = refl
quiet_kind tables q from to (kind.Purged name) none f = refl
quiet_kind tables q from to (kind.Come round part) none f = refl
quiet_kind tables q from to (kind.Result round fold) none f = refl

quiet_all : (tables : Tables) (q : Name) (ms : List Message) → tables q ≡ None → AllMailFits tables ms → find_all (flying q) ms ≡ []
quiet_all tables q [] none f = refl
quiet_all tables q (m ∷ ms) none f =
    picked_none (flying q m) (find_all (flying q) ms) (ap (λ o. flown (other_end q m) o) (quiet_kind tables q m.sender m.addressee m.kind none f.0)) ∙ quiet_all tables q ms none f.1

pub nothing_flies : (w : World) (arrays : Name → List ℕ) (us : List Under) (q : Name) → AllNodesHold w arrays us → table_of q w ≡ None → find_all (flying q) (messages_of us) ≡ []
nothing_flies w arrays us q k none = quiet_all (λ p. table_of p w) q (messages_of us) none k.mail

moves_nothing : {A : Type 0} {xs ys : List A} → Moves xs ys → xs ≡ [] → ys ≡ []
moves_nothing still e = e
moves_nothing (moved x rest a b m) e = absurd (took_nothing a e)

no_side : (w : World) (arrays : Name → List ℕ) (us : List Under) (q : Name) (j : ℕ) → AllNodesHold w arrays us → table_of q w ≡ None → (w.nodes j).remotes q ≡ None
no_side w arrays us q j k none = go ((w.nodes j).remotes q) refl
  where
    go : (o : Option Remote) → (w.nodes j).remotes q ≡ o → (w.nodes j).remotes q ≡ None
    go None e = e
    go (Some r) e = absurd (let t = (k.sizes j q r e).1 in cc)

-- The outcome o of node i, from n on, where the message that came is taken out of the inbox.
pub record StepFits (w : World) (i : ℕ) (e : Event) (inbox : List Piece) (parcels : PartsGathered) (us left : List Under) (o : Outcome) (came : Name → Option Flying) (written : Name → Option (List ℕ)) : Type 0 where
  pub few : i < w.count
  pub fits : (j : ℕ) → Fits j ((steps_node i e o w).world.nodes j)
  pub acts : (q : Name) → Acts (λ p size. (h : Home) × (table_of p w ≡ Some h) × (h.size ≡ size)) q i (came q) (written q) (record (w.nodes i) { inbox = inbox; parcels = parcels }) o.node o.posts
  pub frame : Frame (record (w.nodes i) { inbox = inbox; parcels = parcels }) o.node
  pub cached : IsMappedOrCached o.node
  pub addressed : Addressed (steps_node i e o w).world
  pub sections : (j : ℕ) → SectionsFit ((steps_node i e o w).world.nodes j)
  pub asks : WaitsAsking o.node
  pub named_sizes : SizesFit (tables_of w) o.node
  pub left_mail : AllMailFits (tables_of w) (messages_of left)
  pub flies : IsFlight left (boxes_from 0 w.count (at_node w.nodes i (record (w.nodes i) { inbox = inbox; parcels = parcels }))) (λ j. (at_node w.nodes i (record (w.nodes i) { inbox = inbox; parcels = parcels }) j).parcels)
  pub comes : (q : Name) → Comes (came q) (find_all (flying q) (messages_of us)) (find_all (flying q) (messages_of left))
  pub mail : (tables : Tables) → Sends i w.count (record (w.nodes i) { inbox = inbox; parcels = parcels }) tables → AllMailFits tables o.posts

pub all_stepped : (w : World) (arrays : Name → List ℕ) (i : ℕ) (e : Event) (inbox : List Piece) (parcels : PartsGathered) (us left : List Under) (o : Outcome) (came : Name → Option Flying) (written : Name → Option (List ℕ))
    → AllNodesHold w arrays us → StepFits w i e inbox parcels us left o came written
    → AllNodesHold (steps_node i e o w).world (λ q. bytes_after (written q) (arrays q)) (left ++ map posted o.posts)
    × ((q : Name) (h : Home) → table_of q w ≡ Some h → Lifted q i (came q) w.nodes (steps_node i e o w).world.nodes (messages_of us) (messages_of (left ++ map posted o.posts)) h (arrays q) (bytes_after (written q) (arrays q)))
    × ((q : Name) (h : Home) → table_of q w ≡ None → table_of q (steps_node i e o w).world ≡ Some h → (size : ℕ) × (created w.count size (λ j. size) ≡ sight q h (steps_node i e o w).world.nodes (messages_of (left ++ map posted o.posts)) (bytes_after (written q) (arrays q))))
all_stepped w arrays i e inbox parcels us left o came written k x = (
  record {
    fits = x.fits;
    agrees = of_node w.nodes i m (λ j n. (q : Name) → expected (home_of n q) (n.remotes q) ≡ section_at q n.sections) (λ q. agrees_now q (x.acts q)) (λ j other. k.agrees j);
    sections = x.sections;
    cached = of_node w.nodes i m (λ j n. IsMappedOrCached n) x.cached (λ j other. k.cached j);
    addressed = x.addressed;
    asks = of_node w.nodes i m (λ j n. WaitsAsking n) x.asks (λ j other. k.asks j);
    named_sizes = of_node w.nodes i m (λ j n. SizesFit after n) (sizes_grown before after o.node m grows refl refl x.named_sizes) (λ j other. sizes_grown before after (w.nodes j) (w.nodes j) grows refl refl (k.named_sizes j));
    sizes = of_node w.nodes i m (λ j n. (q : Name) (r : Remote) → n.remotes q ≡ Some r → (h : Home) × (table_of q v ≡ Some h) × (h.size ≡ r.size)) (λ q r f. known q r.size (sizes_now q (x.acts q) r f))
        (λ j other q r f. known q r.size (k.sizes j q r f));
    mail = subst (λ ms. AllMailFits after ms) (sym (messages_posted left o.posts)) (all_append (MailFits after) (messages_of left) o.posts (all_grown before after (messages_of left) grows x.left_mail) (x.mail after sends));
    flies = flight_as now (pieces_in_boxes v) (λ j. (at_node w.nodes i n j).parcels) (λ j. (v.nodes j).parcels) gathered (posts_fly left (boxes_from 0 w.count (at_node w.nodes i n)) (pieces_in_boxes v) (λ j. (at_node w.nodes i n j).parcels) o.posts x.flies grown);
    coherent = coherent_now;
  },
  lifted,
  made_now,
)
  where
    n : Node
    n = record (w.nodes i) { inbox = inbox; parcels = parcels }

    m : Node
    m = commits w.events e o

    v : World
    v = (steps_node i e o w).world

    now : List Under
    now = left ++ map posted o.posts

    K : Name → ℕ → Type 0
    K = λ p size. (h : Home) × (table_of p w ≡ Some h) × (h.size ≡ size)

    before : Name → Option Home
    before = λ q. table_of q w

    after : Name → Option Home
    after = λ q. table_of q v

    outcomes : (q : Name) → Outcomes q i w.nodes v.nodes n o.node
    outcomes q = record {
      me = (k.fits i).me;
      home_before = refl;
      home_after = ap (λ (y : Node). home_of y q) (node_here w.nodes i m);
      remote_before = refl;
      remote_after = ap (λ (y : Node). y.remotes q) (node_here w.nodes i m);
      home_other = λ j other. ap (λ (y : Node). home_of y q) (node_there w.nodes i m j other);
      remote_other = λ j other. ap (λ (y : Node). y.remotes q) (node_there w.nodes i m j other);
    }

    sized : (q : Name) (h : Home) → table_of q w ≡ Some h → (r : Option Remote) → (w.nodes i).remotes q ≡ r → SizeIs r h.size
    sized q h there None f = tt
    sized q h there (Some r) f = let s = k.sizes i q r f in let same : s.0 ≡ h = (let both : Some s.0 ≡ Some h = sym s.1 ∙ there in cc) in sym s.2 ∙ ap (λ (y : Home). y.size) same

    more : boxes (v.nodes i) ≡ boxes (at_node w.nodes i n i) ++ pieces_in o.posts
    more =
        ap boxes (node_here w.nodes i m) ∙ ap (λ l. l ++ (o.node.outbox ++ pieces_in o.posts)) x.frame.inbox ∙ ap (λ l. inbox ++ (l ++ pieces_in o.posts)) x.frame.outbox
        ∙ sym (append_assoc inbox (w.nodes i).outbox (pieces_in o.posts)) ∙ sym (ap (λ (y : Node). boxes y ++ pieces_in o.posts) (node_here w.nodes i n))

    grown : Moves (boxes_from 0 w.count (at_node w.nodes i n) ++ pieces_in o.posts) (pieces_in_boxes v)
    grown = flight_more (pieces_in o.posts) w.count i (at_node w.nodes i n) v.nodes x.few more (λ l other. ap boxes (node_there w.nodes i n l other ∙ sym (node_there w.nodes i m l other)))

    gathered : (j : ℕ) (key : Key) → (v.nodes j).parcels key ≡ (at_node w.nodes i n j).parcels key
    gathered j key = of_node w.nodes i m (λ l (y : Node). y.parcels key ≡ (at_node w.nodes i n l).parcels key) (ap (λ (g : PartsGathered). g key) x.frame.parcels ∙ sym (ap (λ (y : Node). y.parcels key) (node_here w.nodes i n)))
        (λ l other. sym (ap (λ (y : Node). y.parcels key) (node_there w.nodes i n l other))) j

    moves : (q : Name) → Moves (find_all (flying q) (messages_of left) ++ find_all (flying q) o.posts) (find_all (flying q) (messages_of now))
    moves q =
        subst (λ l. Moves (find_all (flying q) (messages_of left) ++ find_all (flying q) o.posts) l) (sym (picks-append (flying q) (messages_of left) o.posts) ∙ ap (λ l. find_all (flying q) l) (sym (messages_posted left o.posts))) still

    lifted : (q : Name) (h : Home) → table_of q w ≡ Some h → Lifted q i (came q) w.nodes v.nodes (messages_of us) (messages_of now) h (arrays q) (bytes_after (written q) (arrays q))
    lifted q h there =
        lift K q i w.nodes v.nodes n o.node (messages_of us) (messages_of now) o.posts (find_all (flying q) (messages_of left)) (came q) (written q) h (arrays q)
        (outcomes q) there (sized q h there ((w.nodes i).remotes q) refl) (x.comes q) (moves q) (x.acts q)

    grows : Grows before after
    grows q h there = let l = lifted q h there in (l.home, l.there, l.size)

    known : (q : Name) (size : ℕ) → K q size → (h : Home) × (table_of q v ≡ Some h) × (h.size ≡ size)
    known q size s = let g = grows q s.0 s.1 in (g.0, g.1, g.2 ∙ s.2)

    sends : Sends i w.count n after
    sends = record {
      me = (k.fits i).me;
      few = x.few;
      near = λ name h f. subst (NodesExistIf (w.nodes i).me w.count) f ((k.addressed i).node.1.homes name);
      home_there = λ name h f. grows name h (table_at w arrays us i name h k f).1;
      side_there = λ name r f. let s = k.sizes i name r f in let g = grows name s.0 s.1 in ((g.0, g.1), away i (w.nodes i) name r f (k.fits i));
      live = live_at w arrays us i k;
    }

    at_home : (q : Name) → (q.home == i) ≡ true → home_of n q ≡ None → table_of q w ≡ None
    at_home q here none = subst (λ j. home_of (w.nodes j) q ≡ None) (sym (eqb-true q.home i here)) none

    agrees_now : (q : Name) → Acts K q i (came q) (written q) n o.node o.posts → expected (home_of m q) (m.remotes q) ≡ section_at q m.sections
    agrees_now q (nothing a b f r p s) = ap (λ y. expected y (m.remotes q)) f ∙ ap (λ y. expected (home_of n q) y) r ∙ k.agrees i q ∙ sym s
    agrees_now q (home_acts h t a b size r p mine happens) = ap (λ y. expected y (m.remotes q)) b ∙ mine
    agrees_now q (side_acts next ms none f a p here s happens) = ap (λ y. expected y (m.remotes q)) (f ∙ none) ∙ here
    agrees_now q (absent a b f g r p s) = ap (λ y. expected y (m.remotes q)) (g ∙ sym f) ∙ ap (λ y. expected (home_of n q) y) r ∙ k.agrees i q ∙ sym s
    agrees_now q (made size a b here f g r p s) =
        ap (λ y. expected y (m.remotes q)) g ∙ sym (ap (λ y. expected y (n.remotes q)) f ∙ ap (λ y. expected None y) (no_side w arrays us q i k (at_home q here f))) ∙ k.agrees i q ∙ sym s

    sizes_now : (q : Name) → Acts K q i (came q) (written q) n o.node o.posts → (r : Remote) → m.remotes q ≡ Some r → K q r.size
    sizes_now q (nothing a b f r p s) y g = k.sizes i q y (sym r ∙ g)
    sizes_now q (home_acts h t a b size r p mine happens) y g = k.sizes i q y (sym r ∙ g)
    sizes_now q (side_acts next ms none f a p here s happens) y g = s (λ z w. k.sizes i q z w) y g
    sizes_now q (absent a b f u r p s) y g = k.sizes i q y (sym r ∙ g)
    sizes_now q (made size a b here f u r p s) y g = k.sizes i q y (sym r ∙ g)

    -- the region was there, or it is new
    New : Name → Home → Type 0
    New q h = (size : ℕ) × (h ≡ new_home n.nodes size) × (q.home ≡ i) × (came q ≡ None) × (written q ≡ Some (replicate size 0)) × (o.node.remotes q ≡ n.remotes q) × (find_all (flying q) o.posts ≡ [])

    stays_none : (q : Name) → q.home ≢ i → table_of q v ≡ table_of q w
    stays_none q other = (outcomes q).home_other q.home other

    made_new : (q : Name) (h : Home) → table_of q w ≡ None → table_of q v ≡ Some h → q.home ≡ i → Acts K q i (came q) (written q) n o.node o.posts → New q h
    made_new q h none there here a = go a
      where
        was : home_of n q ≡ None
        was = subst (λ j. home_of (w.nodes j) q ≡ None) here none

        is_now : home_of o.node q ≡ Some h
        is_now = sym (outcomes q).home_after ∙ subst (λ j. home_of (v.nodes j) q ≡ Some h) here there

        go : Acts K q i (came q) (written q) n o.node o.posts → New q h
        go (nothing a b f r p s) = absurd (let u = was in let y = is_now in cc)
        go (home_acts h0 t a b size r p mine happens) = absurd (let u = was in let y = is_now in cc)
        go (side_acts next ms z f a p here s happens) = absurd (let u = was in let y = is_now in cc)
        go (absent a b f g r p s) = absurd (let u = was in let y = is_now in cc)
        go (made size a b c f g r p s) = (size, (let both : Some h ≡ Some (new_home n.nodes size) = sym is_now ∙ g in cc), here, a, b, r, p)

    origin : (q : Name) (h : Home) → table_of q v ≡ Some h → (old : Option Home) → table_of q w ≡ old → ((g : Home) × (table_of q w ≡ Some g)) ⊎ (New q h × (table_of q w ≡ None))
    origin q h there (Some g) f = inl (g, f)
    origin q h there None f = elim (same_or q.home i) [
      | inl here ↦ inr (made_new q h f there here (x.acts q), f)
      | inr other ↦ absurd (let same = stays_none q other in cc)
    ]

    is_home : (q : Name) (h g : Home) (there : table_of q v ≡ Some h) (f : table_of q w ≡ Some g) → (lifted q g f).home ≡ h
    is_home q h g there f = let both : Some (lifted q g f).home ≡ Some h = sym (lifted q g f).there ∙ there in cc

    new_region : (q : Name) (h : Home) (new : New q h) → table_of q w ≡ None → created n.nodes new.0 (λ j. new.0) ≡ sight q h v.nodes (messages_of now) (bytes_after (written q) (arrays q))
    new_region q h new none =
        let sides : (j : ℕ) → new_remote new.0 ≡ side h.size ((v.nodes j).remotes q) =
        λ j. sym (ap (λ y. side h.size y) (of_node w.nodes i m (λ l y. y.remotes q ≡ None) (new.5 ∙ no_side w arrays us q i k none) (λ l other. no_side w arrays us q l k none) j) ∙ ap (λ (y : Home). new_remote y.size) new.1) in
        let empty : [] ≡ find_all (flying q) (messages_of now) =
        sym (moves_nothing (moves q) (ap (λ l. find_all (flying q) (messages_of left) ++ l) new.6 ∙ append_nil _
        ∙ subst (λ c. Comes c (find_all (flying q) (messages_of us)) (find_all (flying q) (messages_of left))) new.3 (x.comes q) ∙ nothing_flies w arrays us q k none)) in
        let bytes : replicate new.0 0 ≡ bytes_after (written q) (arrays q) = sym (ap (λ y. bytes_after y (arrays q)) new.4) in
        λ t. record { home = sym new.1 t; remotes = λ j. sides j t; flight = empty t; array = bytes t }

    coherent_now : (q : Name) (h : Home) → table_of q v ≡ Some h → IsCoherent q.home (sight q h v.nodes (messages_of now) (bytes_after (written q) (arrays q)))
    coherent_now q h there = elim (origin q h there (table_of q w) refl) [
      | inl old ↦ (let l = lifted q old.0 old.1 in
          subst (λ y. IsCoherent q.home (sight q y v.nodes (messages_of now) (bytes_after (written q) (arrays q)))) (is_home q h old.0 there old.1) (runs_kept q.home _ _ (run_of q.home _ _ l.goes_on) (k.coherent q old.0 old.1)))
      | inr new ↦ subst (λ g. IsCoherent q.home g) (new_region q h new.0 new.1) (created_kept q.home n.nodes new.0.0 (λ j. new.0.0))
    ]

    made_now : (q : Name) (h : Home) → table_of q w ≡ None → table_of q v ≡ Some h → (size : ℕ) × (created w.count size (λ j. size) ≡ sight q h v.nodes (messages_of now) (bytes_after (written q) (arrays q)))
    made_now q h none there = elim (origin q h there (table_of q w) refl) [
      | inl old ↦ absurd (let was = old.1 in cc)
      | inr new ↦ (new.0.0, subst (λ c. created c new.0.0 (λ j. new.0.0) ≡ sight q h v.nodes (messages_of now) (bytes_after (written q) (arrays q))) (k.addressed i).node.0.few (new_region q h new.0 new.1))
    ]
