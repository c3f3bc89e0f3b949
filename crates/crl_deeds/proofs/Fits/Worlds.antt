-- What holds of every node holds after each event.
use Rattle.std.proofs.Common.{◌≡◌, ℕ, zero, suc, ◌+◌, ◌==◌, ◌&&◌, Bool, true, false, None, Some, Option, List, [], ◌∷◌, length, if◌then◌else◌, refl, sym, ◌∙◌, subst}
use Rattle.std.specs.List.{AllByRecursion}
use Rattle.std.proofs.lemmas.Bool.{cond_both, eqb-true, and_parts}
use Rattle.crl_model.specs.declared.name.Name.{Name}
use Rattle.crl_model.specs.declared.stage.Stage.TheVariants as stage
use Rattle.crl_model.specs.declared.event.Event.{Event}
use Rattle.crl_model.specs.declared.event.Event.TheVariants as event
use Rattle.crl_model.specs.declared.message.Message.{Message}
use Rattle.crl_model.specs.declared.message.Kind.{Kind}
use Rattle.crl_model.specs.declared.message.Kind.TheVariants as kind
use Rattle.crl_model.specs.Names.{at_node}
use Rattle.crl_pieces.specs.Pieces.{count, cut, fresh, Cell, left_from, is_missing, is_complete, joined}
use Rattle.crl_protocol.specs.Parcels.{Piece, load_of, with_load, piece_of, pieces_of, pieces_in, Key, key_of, PartsGathered, slots_or, at_key, fits_size}
use Rattle.crl_protocol.specs.Receiving.{size_for, slots_with, gathers_piece, receives_part, receives_as, receives}
use Rattle.crl_protocol.specs.Places.{Taken, behind, take_out}
use Rattle.crl_protocol.specs.Home.{Home}
use Rattle.crl_protocol.specs.Lifetimes.{no_lifetime}
use Rattle.crl_protocol.specs.Node.{Node, new_node, Activity, Free, Waiting, Ready, Outcome}
use Rattle.crl_protocol.specs.Calls.{node_calls}
use Rattle.crl_protocol.specs.World.{World, commits, steps_node, collects, handles_at, put_in, carries, note, step, is_enabled, IsRunFrom, world_after, IsRun, new_world, world_of}
use Rattle.crl_deeds.specs.NodeFacts.{seen, OwnFits, Holds, Comes, Leaves, IsAway, Fits, AllFit}
use Rattle.crl_deeds.proofs.Chosen.Lists.{all_append}
use Rattle.crl_deeds.proofs.Fits.AllCalls.{good_call}
use Rattle.crl_deeds.proofs.Fits.CopyMessages.{fits_as}
use Rattle.crl_deeds.proofs.Fits.Fields.{fits_turn}
use Rattle.crl_deeds.proofs.Fits.OtherMessages.{good_message}
use Rattle.crl_deeds.proofs.Fits.Parts.{Good, good_only}
use Rattle.crl_deeds.proofs.Runs.Enabled.{free_is}

-- what holds at a node and at all others, where a value was changed at the node
by_test : (i j : ℕ) (P : Bool → ℕ → Type 0) (b : Bool) → (i == j) ≡ b → P true i → ((i == j) ≡ false → P false j) → P b j
by_test i j P true e here there = subst (λ x. P true x) (eqb-true i j e) here
by_test i j P false e here there = there e

pub by_node : (i : ℕ) (P : Bool → ℕ → Type 0) → P true i → ((j : ℕ) → P false j) → (j : ℕ) → P (i == j) j
by_node i P here there j = by_test i j P (i == j) refl here (λ e. there j)

-- The start of a run.
own_start : (b : Bool) (q : Name) → OwnFits b (record { mine = b; stage = stage.Unknown; home = None; remote = None; mapping = None; opened = None })
own_start true q = record { live = tt; bytes = tt; mapped = tt; nothing = refl }
own_start false q = record { bytes = tt; mapped = tt; nothing = refl; unknown = refl }

abbrev no_home : Option Home
no_home = None

no_table : (b c : Bool) → (if b then if c then no_home else no_home else no_home) ≡ no_home
no_table true true = refl
no_table true false = refl
no_table false c = refl

no_stage : (b : Bool) → (if b then no_lifetime else no_lifetime).stage ≡ stage.Unknown
no_stage true = refl
no_stage false = refl

pub fits_start : (count capacity i : ℕ) → Fits i (new_node count capacity i)
fits_start count capacity i = record {
  me = refl;
  each = λ q. subst (λ s. Holds i q Free (record (seen (new_node count capacity i) q) { stage = s })) (sym (no_stage (q.home == i)))
      (subst (λ h. Holds i q Free (record (seen (new_node count capacity i) q) { stage = stage.Unknown; home = h })) (sym (no_table (q.home == i) (q.serial == 0)))
      (record { sections = tt; own = own_start (q.home == i) q; queue = tt; asking = tt; going = tt; waiting = tt }));
  cache = λ q size c. absurd c;
  fresh = tt;
  inbox = tt;
  outbox = tt;
}

-- The pieces of messages that leave.
abbrev LeavesIn : Piece → Type 0
LeavesIn p = Leaves p.message

pub away_load : (from to : ℕ) (part : List ℕ) (k : Kind) → IsAway from to k ≡ IsAway from to (with_load part k)
away_load from to part (kind.Grant name version g) = refl
away_load from to part (kind.Return name version bytes) = refl
away_load from to part (kind.Release name version bytes) = refl
away_load from to part (kind.InfoAsk name) = refl
away_load from to part (kind.InfoIs name t) = refl
away_load from to part (kind.Ask name write have) = refl
away_load from to part (kind.Recall name version) = refl
away_load from to part (kind.Yield name version) = refl
away_load from to part (kind.DeleteAsk name) = refl
away_load from to part (kind.DeleteIs name t) = refl
away_load from to part (kind.Purge name) = refl
away_load from to part (kind.Purged name) = refl
away_load from to part (kind.Come round p) = refl
away_load from to part (kind.Result round f) = refl

left_leave : (m : Message) (n k : ℕ) (cells : List Cell) → Leaves m → AllByRecursion LeavesIn (left_from (piece_of m n) k cells)
left_leave m n k [] h = tt
left_leave m n k (c ∷ cells) h =
    let rest = left_leave m n (k + 1) cells h in
    cond_both c.came _ _ (AllByRecursion LeavesIn) (λ w. rest) (λ w. (subst (λ (x : Type 0). x) (away_load m.sender m.addressee c.part m.kind) h, rest))

pieces_leave : (ms : List Message) → AllByRecursion Leaves ms → AllByRecursion LeavesIn (pieces_in ms)
pieces_leave [] h = tt
pieces_leave (m ∷ ms) h = all_append LeavesIn (pieces_of m) (pieces_in ms) (left_leave m (count (length (load_of m.kind))) 0 (fresh (cut (load_of m.kind))) h.0) (pieces_leave ms h.1)

-- A piece comes.
pub fits_parcels : (i : ℕ) (n : Node) (parcels : PartsGathered) → Fits i n → Fits i (record n { parcels = parcels })
fits_parcels i n parcels f = record { me = f.me; each = f.each; cache = f.cache; fresh = f.fresh; inbox = f.inbox; outbox = f.outbox }

good_piece : (i : ℕ) (n : Node) (o : Option Key) (p : Piece) → Comes n.me p.message → Fits i n → Good i (receives_as o p n)
good_piece i n None p h f = good_message i n p.message.sender p.message.kind h f
good_piece i n (Some key) p h f = go (size_for key.load key.name n)
  where
    gathers : (slots : List (Option (List ℕ))) → Good i (gathers_piece key p slots n)
    gathers slots =
        cond_both (is_complete slots) _ _ (λ (x : Outcome). Good i x)
        (λ w. good_message i (record n { parcels = at_key n.parcels key None }) p.message.sender (with_load (joined slots) p.message.kind) (subst (λ (x : Type 0). x) (away_load p.message.sender n.me (joined slots) p.message.kind) h)
        (fits_parcels i n (at_key n.parcels key None) f)) (λ w. good_only i (record n { parcels = at_key n.parcels key (Some slots) }) (fits_parcels i n (at_key n.parcels key (Some slots)) f))

    go : (size : Option ℕ) → Good i (receives_part key p size n)
    go None = good_only i n f
    go (Some size) = cond_both (fits_size size p && is_missing p.index (slots_or p.pieces (n.parcels key))) _ _ (λ (x : Outcome). Good i x) (λ w. gathers (slots_with p (n.parcels key))) (λ w. good_only i n f)

-- An outcome is committed, and its answer given.
fits_committed : (i position : ℕ) (e : Event) (o : Outcome) → Good i o → Fits i (commits position e o)
fits_committed i position e o g =
    let f = g.node in record { me = f.me; each = f.each; cache = f.cache; fresh = f.fresh; inbox = f.inbox; outbox = all_append LeavesIn o.node.outbox (pieces_in o.posts) f.outbox (pieces_leave o.posts g.posts) }

-- What is taken out of a list was one of its elements.
all_behind : {A : Type 0} (P : A → Type 0) (x : A) (o : Option (Taken A)) (t : Taken A) → behind x o ≡ Some t → P x
    → ((u : Taken A) → o ≡ Some u → P u.taken × AllByRecursion P u.rest) → P t.taken × AllByRecursion P t.rest
all_behind P x None t e h k = cc
all_behind P x (Some u) t e h k =
    let parts = k u refl in
    let same : record { taken = u.taken; rest = x ∷ u.rest } ≡ t = cc in
    subst (λ (v : Taken _). P v.taken × AllByRecursion P v.rest) same (parts.0, (h, parts.1))

pub all_taken : {A : Type 0} (P : A → Type 0) (place : ℕ) (xs : List A) (t : Taken A) → take_out place xs ≡ Some t → AllByRecursion P xs → P t.taken × AllByRecursion P t.rest
all_taken P place [] t e h = cc
all_taken P zero (x ∷ xs) t e h =
    let same : record { taken = x; rest = xs } ≡ t = cc in subst (λ (v : Taken _). P v.taken × AllByRecursion P v.rest) same h
all_taken P (suc place) (x ∷ xs) t e h = all_behind P x (take_out place xs) t e h.0 (λ u w. all_taken P place xs u w h.1)

good_collected : (i : ℕ) (n : Node) (a : Activity) → n.activity ≡ a → Fits i n → Good i (collects a n)
good_collected i n Free e f = good_only i n f
good_collected i n (Waiting awaited) e f = good_only i n f
good_collected i n (Ready answer) e f = record {
  node = fits_turn i n (Ready answer) Free (λ q. record { section = λ w. cc; delete = λ w. cc }) (λ q. tt) tt (fits_as i n (Ready answer) e f);
  posts = tt;
}

fits_stepped : (w : World) (i : ℕ) (e : Event) (o : Outcome) → Good i o → AllFit w → AllFit (steps_node i e o w).world
fits_stepped w i e o g s = by_node i (λ b j. Fits j (if b then commits w.events e o else w.nodes j)) (fits_committed i w.events e o g) s

fits_handled : (w : World) (i place : ℕ) (e : Event) (o : Option (Taken Piece)) → take_out place (w.nodes i).inbox ≡ o → AllFit w → AllFit (handles_at i e o w).world
fits_handled w i place e None out s = s
fits_handled w i place e (Some t) out s =
    let n = w.nodes i in
    let fits = s i in
    let parts = all_taken (λ (p : Piece). Comes n.me p.message) place n.inbox t out fits.inbox in
    let taken : Node = record n { inbox = t.rest } in
    let g : Fits i taken = record { me = fits.me; each = fits.each; cache = fits.cache; fresh = fits.fresh; inbox = parts.1; outbox = fits.outbox } in
    fits_stepped w i e (receives t.taken taken) (good_piece i taken (key_of t.taken.message) t.taken parts.0 g) s

fits_carried : (w : World) (i place : ℕ) (e : Event) (o : Option (Taken Piece)) → take_out place (w.nodes i).outbox ≡ o → AllFit w → AllFit (carries i e o w).world
fits_carried w i place e None out s = s
fits_carried w i place e (Some t) out s = arrived
  where
    sender : Node
    sender = note w.events e (record (w.nodes i) { outbox = t.rest })

    between : ℕ → Node
    between = at_node w.nodes i sender

    parts : LeavesIn t.taken × AllByRecursion LeavesIn t.rest
    parts = all_taken LeavesIn place (w.nodes i).outbox t out (s i).outbox

    sent : Fits i sender
    sent = let fits = s i in record { me = fits.me; each = fits.each; cache = fits.cache; fresh = fits.fresh; inbox = fits.inbox; outbox = parts.1 }

    left_there : (j : ℕ) → Fits j (between j)
    left_there = by_node i (λ b j. Fits j (if b then sender else w.nodes j)) sent s

    put : (j : ℕ) (n : Node) → t.taken.message.addressee ≡ j → Fits j n → Fits j (put_in t.taken n)
    put j n to fits = record {
      me = fits.me;
      each = fits.each;
      cache = fits.cache;
      fresh = fits.fresh;
      inbox = all_append (λ (p : Piece). Comes n.me p.message) n.inbox (t.taken ∷ []) fits.inbox (subst (λ x. IsAway t.taken.message.sender x t.taken.message.kind) (to ∙ sym fits.me) parts.0, tt);
      outbox = fits.outbox;
    }

    arrived : (j : ℕ) → Fits j (at_node between t.taken.message.addressee (put_in t.taken (between t.taken.message.addressee)) j)
    arrived = by_node t.taken.message.addressee (λ b j. Fits j (if b then put_in t.taken (between t.taken.message.addressee) else between j))
        (put t.taken.message.addressee (between t.taken.message.addressee) refl (left_there t.taken.message.addressee)) left_there

-- any event that may come
pub fits_event : (w : World) (e : Event) → is_enabled e w ≡ true → AllFit w → AllFit (step e w).world
unfolding step is_enabled
fits_event w (event.Call i c) h s =
    let parts = and_parts _ _ (and_parts _ _ h).1 in
    fits_stepped w i _ (node_calls c (w.nodes i)) (good_call i (w.nodes i) c (free_is (w.nodes i).activity parts.0) parts.1 (s i)) s
fits_event w (event.Collect i) h s = fits_stepped w i _ (collects (w.nodes i).activity (w.nodes i)) (good_collected i (w.nodes i) (w.nodes i).activity refl (s i)) s
fits_event w (event.Handle i place) h s = fits_handled w i place _ (take_out place (w.nodes i).inbox) refl s
fits_event w (event.Carry i place) h s = fits_carried w i place _ (take_out place (w.nodes i).outbox) refl s

-- and any run
pub fits_run : (w : World) (es : List Event) → IsRunFrom w es → AllFit w → AllFit (world_after w es)
fits_run w [] r s = s
fits_run w (e ∷ es) r s = fits_run (step e w).world es r.1 (fits_event w e r.0 s)

pub fits_in_runs : (count capacity : ℕ) (run : List Event) → IsRun count capacity run → (i : ℕ) → Fits i ((world_of count capacity run).nodes i)
fits_in_runs count capacity run r = fits_run (new_world count capacity) run r.enabled (λ i. fits_start count capacity i)
