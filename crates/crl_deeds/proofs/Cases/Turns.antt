-- Each event of a run is a turn of the world. What holds of each node by itself, and of each message, holds throughout a run.
use Rattle.std.proofs.Common.{◌≡◌, ℕ, zero, suc, ◌+◌, ◌<◌, ◌==◌, ◌&&◌, true, None, Some, Option, List, [], ◌∷◌, length, refl, sym, ◌∙◌, subst, arith}
use Rattle.std.specs.List.{AllByRecursion}
use Rattle.std.proofs.lemmas.Bool.{cond_both, eqb-true}
use Rattle.crl_model.specs.declared.call.Call.{Call}
use Rattle.crl_model.specs.declared.event.Event.{Event}
use Rattle.crl_model.specs.declared.event.Event.TheVariants as event
use Rattle.crl_model.specs.declared.entry.What.{What}
use Rattle.crl_model.specs.declared.message.Message.{Message}
use Rattle.crl_model.specs.declared.message.Kind.{Kind}
use Rattle.crl_model.specs.declared.message.Kind.TheVariants as kind
use Rattle.crl_model.specs.declared.message.Granted.TheVariants.{Shared, Exclusive, Upgrade}
use Rattle.crl_model.specs.Names.{at_node}
use Rattle.crl_pieces.specs.Pieces.{count, cut, Cell, fresh, left_from, is_missing, is_complete, joined}
use Rattle.crl_protocol.specs.Parcels.{Piece, load_of, with_load, piece_of, pieces_of, pieces_in, Key, key_of, slots_or, at_key, fits_size, PartsGathered}
use Rattle.crl_protocol.specs.Receiving.{size_for, slots_with, gathers_piece, receives_part, receives_as, receives}
use Rattle.crl_protocol.specs.Places.{Took, here, there, Taken, behind, take_out}
use Rattle.crl_protocol.specs.Node.{Node, Activity, Free, Waiting, Ready, Outcome, Done, only}
use Rattle.crl_protocol.specs.Calls.{node_calls}
use Rattle.crl_protocol.specs.Handlers.{node_handles}
use Rattle.crl_protocol.specs.World.{World, WorldStep, collects, carries, steps_node, handles_at, step, is_ready, is_enabled, IsRunFrom, world_after}
use Rattle.crl_deeds.specs.Deeds.{Cause, Copies, Lives, Rounds, Notes, Deed, Calls, Hears}
use Rattle.crl_deeds.specs.Turns.{Turn, calls, hears, gathers, answers, carriage, Frame, Came, Parts, Local, HeldIn, HeldOut, HeldAt, Held}
use Rattle.crl_deeds.proofs.Cases.Called.{call_deed}
use Rattle.crl_deeds.proofs.Cases.Heard.{message_deed}
use Rattle.crl_deeds.proofs.Chosen.Lists.{all_append}
use Rattle.crl_deeds.specs.Deeds as deed
use Rattle.crl_deeds.proofs.Runs.Enabled.{taken_there, may_call, may_collect, may_handle, may_carry}

took_behind : {A : Type 0} (y : A) (ys : List A) (o : Option (Taken A)) → ((t : Taken A) → o ≡ Some t → Took t.taken ys t.rest) → (t : Taken A) → behind y o ≡ Some t → Took t.taken (y ∷ ys) t.rest
took_behind y ys None h t e = cc
took_behind {A = A} y ys (Some s) h t e = let same : record { taken = s.taken; rest = y ∷ s.rest } ≡ t = cc in subst (λ (x : Taken A). Took x.taken (y ∷ ys) x.rest) same (there (h s refl))

pub took_at : {A : Type 0} (k : ℕ) (xs : List A) (t : Taken A) → take_out k xs ≡ Some t → Took t.taken xs t.rest
took_at k [] t e = cc
took_at {A = A} zero (y ∷ ys) t e = let same : record { taken = y; rest = ys } ≡ t = cc in subst (λ (x : Taken A). Took x.taken (y ∷ ys) x.rest) same here
took_at (suc k) (y ∷ ys) t e = took_behind y ys (take_out k ys) (λ s f. took_at k ys s f) t e

-- a message with its own bytes
whole : (k : Kind) → with_load (load_of k) k ≡ k
whole (kind.Grant name version (Shared bytes)) = refl
whole (kind.Grant name version (Exclusive bytes)) = refl
whole (kind.Grant name version Upgrade) = refl
whole (kind.Return name version None) = refl
whole (kind.Return name version (Some bytes)) = refl
whole (kind.Release name version bytes) = refl
whole _ = refl

-- A piece that comes makes a message whole, or is kept.
pub received : (Q : Outcome → Type 0) (p : Piece) (n : Node) → ((parcels : PartsGathered) (part : List ℕ) → Q (node_handles p.message.sender (with_load part p.message.kind) (record n { parcels = parcels })))
    → ((parcels : PartsGathered) (key : Key) → key_of p.message ≡ Some key → Q (only (record n { parcels = parcels }) Done)) → Q (receives p n)
received Q p n handles keeps = by_key (key_of p.message) refl
  where
    of_slots : (key : Key) → key_of p.message ≡ Some key → (slots : List (Option (List ℕ))) → Q (gathers_piece key p slots n)
    of_slots key h slots = cond_both (is_complete slots) _ _ Q (λ v. handles (at_key n.parcels key None) (joined slots)) (λ v. keeps (at_key n.parcels key (Some slots)) key h)

    of_size : (key : Key) → key_of p.message ≡ Some key → (size : Option ℕ) → Q (receives_part key p size n)
    of_size key h None = keeps n.parcels key h
    of_size key h (Some size) =
        cond_both (fits_size size p && is_missing p.index (slots_or p.pieces (n.parcels key))) _ _ Q (λ v. of_slots key h (slots_with p (n.parcels key))) (λ v. keeps n.parcels key h)

    by_key : (o : Option Key) → key_of p.message ≡ o → Q (receives_as o p n)
    by_key None h = subst (λ k. Q (node_handles p.message.sender k n)) (whole p.message.kind) (handles n.parcels (load_of p.message.kind))
    by_key (Some key) h = of_size key h (size_for key.load key.name n)

pub turn_of : (w : World) (e : Event) → is_enabled e w ≡ true → Turn w e (step e w)
unfolding step
turn_of w (event.Call i c) h = let may = may_call i c w h in calls i c (node_calls c (w.nodes i)) may.0 may.1 may.2 (call_deed (w.nodes i) c)
turn_of w (event.Collect i) h = let may = may_collect i w h in go (w.nodes i).activity refl may.1
  where
    go : (a : Activity) → (w.nodes i).activity ≡ a → is_ready a ≡ true → Turn w (event.Collect i) (steps_node i (event.Collect i) (collects a (w.nodes i)) w)
    go Free x r = cc
    go (Waiting awaited) x r = cc
    go (Ready answer) x r = answers i answer (may_collect i w h).0 x
turn_of w (event.Handle i place) h = go (take_out place (w.nodes i).inbox) refl
  where
    go : (o : Option (Taken Piece)) → take_out place (w.nodes i).inbox ≡ o → Turn w (event.Handle i place) (handles_at i (event.Handle i place) o w)
    go None x = absurd (taken_there place (w.nodes i).inbox (may_handle i place w h).1 x)
    go (Some t) x =
        let few = (may_handle i place w h).0 in
        let took = took_at place (w.nodes i).inbox t x in
        let n = record (w.nodes i) { inbox = t.rest } in
        received (λ o. Turn w (event.Handle i place) (steps_node i (event.Handle i place) o w)) t.taken n
        (λ parcels part. hears i place t.taken t.rest parcels part _ few took (message_deed (record n { parcels = parcels }) t.taken.message.sender (with_load part t.taken.message.kind)))
        (λ parcels key keyed. gathers i place t.taken t.rest parcels key few took keyed)
turn_of w (event.Carry i place) h = go (take_out place (w.nodes i).outbox) refl
  where
    go : (o : Option (Taken Piece)) → take_out place (w.nodes i).outbox ≡ o → Turn w (event.Carry i place) (carries i (event.Carry i place) o w)
    go None x = absurd (taken_there place (w.nodes i).outbox (may_carry i place w h).1 x)
    go (Some t) x = carriage i place t.taken t.rest (may_carry i place w h).0 (took_at place (w.nodes i).outbox t x)

copies_frame : (n : Node) (cause : Cause) (o : Outcome) → Copies n cause o → Frame n o.node
copies_frame n cause o (deed.home_opens c write name h is e v w) = record { me = refl; nodes = refl; capacity = refl; inbox = refl; outbox = refl; parcels = refl }
copies_frame n cause o _ = record { me = refl; nodes = refl; capacity = refl; inbox = refl; outbox = refl; parcels = refl }

pub lives_frame : (n : Node) (cause : Cause) (o : Outcome) → Lives n cause o → Frame n o.node
lives_frame n cause o (deed.made size e) = record { me = refl; nodes = refl; capacity = refl; inbox = refl; outbox = refl; parcels = refl }
lives_frame n cause o _ = record { me = refl; nodes = refl; capacity = refl; inbox = refl; outbox = refl; parcels = refl }

rounds_frame : (n : Node) (cause : Cause) (o : Outcome) → Rounds n cause o → Frame n o.node
rounds_frame n cause o (deed.comes_away part other fits) = record { me = refl; nodes = refl; capacity = refl; inbox = refl; outbox = refl; parcels = refl }
rounds_frame n cause o _ = record { me = refl; nodes = refl; capacity = refl; inbox = refl; outbox = refl; parcels = refl }

notes_frame : (n : Node) (c : Call) (w : What) (m : Node) → Notes n c w m → Frame n m
notes_frame n c w m (deed.flushes_own name mine closed) = record { me = refl; nodes = refl; capacity = refl; inbox = refl; outbox = refl; parcels = refl }
notes_frame n c w m _ = record { me = refl; nodes = refl; capacity = refl; inbox = refl; outbox = refl; parcels = refl }

pub deed_frame : (n : Node) (cause : Cause) (o : Outcome) → Deed n cause o → Frame n o.node
deed_frame n cause o (deed.copies d) = copies_frame n cause o d
deed_frame n cause o (deed.lives d) = lives_frame n cause o d
deed_frame n cause o (deed.rounds d) = rounds_frame n cause o d
deed_frame n cause o (deed.notes d) = notes_frame n _ _ _ d
deed_frame n cause o _ = record { me = refl; nodes = refl; capacity = refl; inbox = refl; outbox = refl; parcels = refl }

pub all_took : {A : Type 0} (P : A → Type 0) {x : A} {xs rest : List A} → Took x xs rest → AllByRecursion P xs → P x × AllByRecursion P rest
all_took P here h = h
all_took P (there t) h = let k = all_took P t h.1 in (k.0, (h.0, k.1))

-- where one node changes
pub each_at : (R : ℕ → Node → Type 0) (f : ℕ → Node) (i : ℕ) (n : Node) → ((j : ℕ) → R j (f j)) → R i n → (j : ℕ) → R j (at_node f i n j)
each_at R f i n h k j = cond_both (i == j) _ _ (λ m. R j m) (λ e. subst (λ x. R x n) (eqb-true i j e) k) (λ e. h j)

-- the pieces of messages
left_held : (Q : Message → Type 0) → Parts Q → (m : Message) (n k : ℕ) (cells : List Cell) → Q m → AllByRecursion (HeldOut Q) (left_from (piece_of m n) k cells)
left_held Q parts m n k [] h = tt
left_held Q parts m n k (c ∷ cells) h =
    let rest = left_held Q parts m n (k + 1) cells h in cond_both c.came _ _ (AllByRecursion (HeldOut Q)) (λ w. rest) (λ w. (parts m c.part h, rest))

pub pieces_held : (Q : Message → Type 0) → Parts Q → (ms : List Message) → AllByRecursion Q ms → AllByRecursion (HeldOut Q) (pieces_in ms)
pieces_held Q parts [] h = tt
pieces_held Q parts (m ∷ ms) h =
    all_append (HeldOut Q) (pieces_of m) (pieces_in ms) (left_held Q parts m (count (length (load_of m.kind))) 0 (fresh (cut (load_of m.kind))) h.0) (pieces_held Q parts ms h.1)

held_deed : (count : ℕ) (P : ℕ → Node → Type 0) (Q : Message → Type 0) → Local count P Q → (w : World) (i : ℕ) (n : Node) (e : Event) (cause : Cause) (o : Outcome) → i < count → Deed n cause o → Came Q i cause
    → Held P Q w → HeldAt P Q i n → Held P Q (steps_node i e o w).world
held_deed count P Q l w i n e cause o few d came h k =
    let after = l.deed i n cause o few d came k.node in
    let frame = deed_frame n cause o d in
    each_at (HeldAt P Q) w.nodes i _ h (record {
      node = l.boxes i o.node _ _ _ _ _ _ after.0;
      inbox = subst (AllByRecursion (HeldIn Q i)) (sym frame.inbox) k.inbox;
      outbox = all_append (HeldOut Q) o.node.outbox (pieces_in o.posts) (subst (AllByRecursion (HeldOut Q)) (sym frame.outbox) k.outbox) (pieces_held Q l.parts o.posts after.1);
    })

pub held_turn : (P : ℕ → Node → Type 0) (Q : Message → Type 0) (w : World) (v : WorldStep) {e : Event} → Turn w e v → Local w.count P Q → Held P Q w → Held P Q v.world
held_turn P Q w v (calls i c o few free may d) l h = held_deed w.count P Q l w i (w.nodes i) _ (Calls c) o few d tt h (h i)
held_turn P Q w v (hears i place p rest parcels part o few took d) l h =
    let parts = all_took (HeldIn Q i) took (h i).inbox in
    held_deed w.count P Q l w i (record (w.nodes i) { inbox = rest; parcels = parcels }) _ (Hears p.message.sender (with_load part p.message.kind)) o few d
    (l.parts (record p.message { addressee = i }) part (subst (λ to. Q (record p.message { addressee = to })) parts.0.1 parts.0.0)) h
    (record { node = l.boxes i (w.nodes i) _ _ _ _ _ _ (h i).node; inbox = parts.1; outbox = (h i).outbox })
held_turn P Q w v (gathers i place p rest parcels key few took keyed) l h =
    let parts = all_took (HeldIn Q i) took (h i).inbox in
    each_at (HeldAt P Q) w.nodes i _ h (record { node = l.boxes i (w.nodes i) _ _ _ _ _ _ (h i).node; inbox = parts.1; outbox = all_append (HeldOut Q) (w.nodes i).outbox [] (h i).outbox tt })
held_turn P Q w v (answers i answer few ready) l h =
    each_at (HeldAt P Q) w.nodes i _ h (record { node = l.boxes i _ _ _ _ _ _ _ (l.answered i (w.nodes i) answer ready (h i).node); inbox = (h i).inbox; outbox = all_append (HeldOut Q) (w.nodes i).outbox [] (h i).outbox tt })
held_turn P Q w v (carriage i place p rest few took) l h =
    let parts = all_took (HeldOut Q) took (h i).outbox in
    let sent : Held P Q (record w { nodes = at_node w.nodes i _ }) = each_at (HeldAt P Q) w.nodes i _ h (record { node = l.boxes i (w.nodes i) _ _ _ _ _ _ (h i).node; inbox = (h i).inbox; outbox = parts.1 }) in
    each_at (HeldAt P Q) _ p.message.addressee _ sent (record {
      node = l.boxes p.message.addressee _ _ _ _ _ _ _ (sent p.message.addressee).node;
      inbox = all_append (HeldIn Q p.message.addressee) _ (p ∷ []) (sent p.message.addressee).inbox ((parts.0, refl), tt);
      outbox = (sent p.message.addressee).outbox;
    })

pub turn_count : (w : World) (v : WorldStep) {e : Event} → Turn w e v → v.world.count ≡ w.count
turn_count w v (calls i c o few free may d) = refl
turn_count w v _ = refl

-- An event is one more; the nodes stay as many.
pub turn_events : (w : World) (v : WorldStep) {e : Event} → Turn w e v → v.world.events ≡ w.events + 1
turn_events w v (calls i c o few free may d) = refl
turn_events w v _ = refl

pub run_count : (w : World) (es : List Event) → IsRunFrom w es → (world_after w es).count ≡ w.count
run_count w [] r = refl
run_count w (e ∷ es) r = run_count (step e w).world es r.1 ∙ turn_count w _ (turn_of w e r.0)

pub run_events : (w : World) (es : List Event) → IsRunFrom w es → (world_after w es).events ≡ w.events + length es
run_events w [] r = omega arith
run_events w (e ∷ es) r =
    let one = turn_events w _ (turn_of w e r.0) in
    let rest = run_events (step e w).world es r.1 in
    omega arith

pub held_run : (count : ℕ) (P : ℕ → Node → Type 0) (Q : Message → Type 0) → Local count P Q → (es : List Event) (w : World) → w.count ≡ count → IsRunFrom w es → Held P Q w → Held P Q (world_after w es)
held_run count P Q l [] w same r h = h
held_run count P Q l (e ∷ es) w same r h =
    let t = turn_of w e r.0 in
    held_run count P Q l es (step e w).world (turn_count w _ t ∙ same) r.1 (held_turn P Q w _ t (subst (λ k. Local k P Q) (sym same) l) h)
