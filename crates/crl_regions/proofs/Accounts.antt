-- The array of a run is the single machine's after the run's account.
use Rattle.std.proofs.Common.{◌≡◌, ℕ, ◌+◌, Bool, true, false, None, Some, Option, List, [], ◌∷◌, ◌++◌, if◌then◌else◌, replicate, refl, ap, sym, ◌∙◌, subst}
use Rattle.crl_model.specs.declared.name.Name.{Name}
use Rattle.crl_model.specs.declared.collective.Fold.{Fold}
use Rattle.crl_model.specs.declared.collective.Fold.TheVariants as fold
use Rattle.crl_model.specs.declared.call.Call.{Call}
use Rattle.crl_model.specs.declared.call.Call.TheVariants as call
use Rattle.crl_model.specs.declared.call.CallKind.{CallKind}
use Rattle.crl_model.specs.declared.call.Refusal.{Refusal}
use Rattle.crl_model.specs.declared.entry.Entry.{Entry}
use Rattle.crl_model.specs.declared.entry.What.{What}
use Rattle.crl_model.specs.declared.entry.What.TheVariants as what
use Rattle.crl_model.specs.declared.event.Event.{Event}
use Rattle.crl_model.specs.declared.event.Event.TheVariants as event
use Rattle.crl_model.specs.declared.message.Kind.{Kind}
use Rattle.crl_model.specs.Calls.{kind_of}
use Rattle.crl_model.specs.FoldOf.{fold_of}
use Rattle.crl_model.specs.Names.{name_eq}
use Rattle.crl_protocol.specs.Places.{Taken, take_out}
use Rattle.crl_protocol.specs.Home.{bytes_after}
use Rattle.crl_protocol.specs.Parcels.{Piece, with_load}
use Rattle.crl_protocol.specs.Receiving.{receives}
use Rattle.crl_protocol.specs.Node.{Node, Outcome, Activity, Free, Waiting, Ready}
use Rattle.crl_protocol.specs.Verdict.{verdict, refuses_call}
use Rattle.crl_protocol.specs.Calls.{result_of, call_or_refuse, node_calls}
use Rattle.crl_protocol.specs.Handlers.{node_handles}
use Rattle.crl_protocol.specs.World.{World, new_world, collects, handles_at, carries, step, account_from, account}
use Rattle.crl_deeds.specs.Deeds.{Cause, Calls, Hears, Idles, to_read, to_write, a_read, a_write, Copies, Lives, Rounds, Notes, Deed, copies, lives, rounds, notes, refuses, idles, home_opens, home_waits, side_opens, side_waits, home_ends, side_ends, side_flushes, home_serves, home_serves_own, grant_comes, side_called, made, used_up, comes_last, part_last, result_comes, ends_nowhere, flushes_own, flushes_nowhere}
use Rattle.crl_machine.specs.SingleMachine.{State, start, change, after_all}
use Rattle.crl_regions.specs.View.{left_if, left_in, array_after, array_from, array_of}
use Rattle.crl_regions.proofs.Calls.{left_none}
use Rattle.crl_regions.proofs.RegionDeeds.{left_of}
use Rattle.crl_deeds.proofs.Laws.{call_deed, message_deed, received}

-- what these entries leave of each region's bytes is what the step says
abbrev Leaves : Node → Cause → List Entry → Type 0
Leaves n cause entries = (s : State) (q : Name) → (after_all s entries).bytes q ≡ bytes_after (left_of q n cause) (s.bytes q)

abbrev NotRefused : Node → Cause → Type 0
NotRefused n (Calls c) = verdict n c ≡ None
NotRefused n (Hears from k) = Unit {0}

written : (b : Bool) (bytes old : List ℕ) → (if b then bytes else old) ≡ bytes_after (left_if b None bytes) old
written true bytes old = refl
written false bytes old = refl

opened : (b : Bool) (me : ℕ) (name q : Name) (s : State) → (change s me (if b then what.StartWrite name else what.StartRead name)).bytes q ≡ s.bytes q
opened true me name q s = refl
opened false me name q s = refl

told : (me round : ℕ) (k : CallKind) (f : Fold) (s : State) (q : Name) → (change s me (result_of round k f)).bytes q ≡ s.bytes q
told me round k fold.Mixed s q = refl
told me round k _ s q = refl

leaves_copies : (n : Node) (cause : Cause) (o : Outcome) → Copies n cause o → Leaves n cause o.entries
leaves_copies n cause o (home_opens c write name h (to_read q0) e v x) s q = refl
leaves_copies n cause o (home_opens c write name h (to_write q0) e v x) s q = refl
leaves_copies n cause o (home_waits c write name h (to_read q0) e v x) s q = refl
leaves_copies n cause o (home_waits c write name h (to_write q0) e v x) s q = refl
leaves_copies n cause o (side_opens c write name r (to_read q0) none e v x) s q = refl
leaves_copies n cause o (side_opens c write name r (to_write q0) none e v x) s q = refl
leaves_copies n cause o (side_waits c write name r (to_read q0) none e v x) s q = refl
leaves_copies n cause o (side_waits c write name r (to_write q0) none e v x) s q = refl
leaves_copies n cause o (home_ends c name w ends lowers h (a_read q0 v) e) s q = refl
leaves_copies n cause o (home_ends c name w ends lowers h (a_write q0 after v) e) s q = written (name_eq name q) after (s.bytes q)
leaves_copies n cause o (side_ends c name w ends lowers r (a_read q0 v) none e) s q = refl
leaves_copies n cause o (side_ends c name w ends lowers r (a_write q0 after v) none e) s q = written (name_eq name q) after (s.bytes q)
leaves_copies n cause o (side_flushes name r other e closed) s q = refl
leaves_copies n cause o (home_serves from k name h x is e y) s q = refl
leaves_copies n cause o (home_serves_own from k name h x is e y) s q = opened _ n.me name q s
leaves_copies n cause o (grant_comes from name version g r e t) s q = opened _ n.me name q s
leaves_copies n cause o (side_called from k name r x is e) s q = refl

leaves_lives : (n : Node) (cause : Cause) (o : Outcome) → Lives n cause o → NotRefused n cause → Leaves n cause o.entries
unfolding verdict
leaves_lives n cause o (made size e) v s q = written _ (replicate size 0) (s.bytes q)
leaves_lives n cause o (used_up size why e x) v s q = absurd (cc)
leaves_lives n cause o _ v s q = refl

leaves_rounds : (n : Node) (cause : Cause) (o : Outcome) → Rounds n cause o → Leaves n cause o.entries
leaves_rounds n cause o (comes_last part parts first fits all) s q = told n.me (n.rounds + 1) (kind_of part) (fold_of parts) (change s n.me (what.Come part)) q
leaves_rounds n cause o (part_last from round part parts mine k e a all) s q = told n.me mine k (fold_of parts) s q
leaves_rounds n cause o (result_comes from round f k e) s q = told n.me round k f s q
leaves_rounds n cause o _ s q = refl

leaves_notes : (n : Node) (c : Call) (w : What) (m : Node) → Notes n c w m → (s : State) (q : Name) → (change s n.me w).bytes q ≡ bytes_after (left_in q n None c) (s.bytes q)
leaves_notes n c w m (ends_nowhere c0 name w0 ends lowers (a_read q0 v) none) s q = refl
leaves_notes n c w m (ends_nowhere c0 name w0 ends lowers (a_write q0 after v) none) s q = written (name_eq name q) after (s.bytes q)
leaves_notes n c w m (flushes_own name mine closed) s q = refl
leaves_notes n c w m (flushes_nowhere name other e closed) s q = refl

idle_leaves : (n : Node) (c : Call) → Idles (Calls c) n → (q : Name) → left_in q n None c ≡ None
idle_leaves n (call.Put name offset len) idle q = refl
idle_leaves n (call.Add name offset) idle q = refl
idle_leaves n (call.StartRead name) idle q = refl
idle_leaves n (call.StartWrite name) idle q = refl
idle_leaves n (call.Create size) idle q = absurd idle
idle_leaves n (call.Delete name) idle q = absurd idle
idle_leaves n (call.Map name) idle q = absurd idle
idle_leaves n (call.Unmap name) idle q = absurd idle
idle_leaves n (call.EndRead name) idle q = absurd idle
idle_leaves n (call.EndWrite name after) idle q = absurd idle
idle_leaves n (call.Flush name) idle q = absurd idle
idle_leaves n (call.Come part) idle q = absurd idle

leaves_idle : (n : Node) (cause : Cause) → Idles cause n → Leaves n cause []
leaves_idle n (Calls c) idle s q = sym (ap (λ o. bytes_after o (s.bytes q)) (idle_leaves n c idle q))
leaves_idle n (Hears from k) idle s q = refl

leaves_deed : (n : Node) (cause : Cause) (o : Outcome) → Deed n cause o → NotRefused n cause → Leaves n cause o.entries
leaves_deed n cause o (copies d) v = leaves_copies n cause o d
leaves_deed n cause o (lives d) v = leaves_lives n cause o d v
leaves_deed n cause o (rounds d) v = leaves_rounds n cause o d
leaves_deed n cause o (notes d) v = λ s q. leaves_notes n _ _ _ d s q
leaves_deed n cause o (refuses c why e) v = absurd (cc)
leaves_deed n cause o (idles idle) v = leaves_idle n cause idle

-- A call, and a piece that comes.
leaves_call : (n : Node) (c : Call) (s : State) (q : Name) → (after_all s (node_calls c n).entries).bytes q ≡ bytes_after (left_in q n (verdict n c) c) (s.bytes q)
unfolding refuses_call
leaves_call n c s q = go (verdict n c) refl
  where
    go : (o : Option Refusal) → verdict n c ≡ o → (after_all s (call_or_refuse (verdict n c) c n).entries).bytes q ≡ bytes_after (left_in q n (verdict n c) c) (s.bytes q)
    go None v = leaves_deed n (Calls c) (node_calls c n) (call_deed n c) v s q ∙ sym (ap (λ w. bytes_after (left_in q n w c) (s.bytes q)) v)
    go (Some why) v = subst (λ w. (after_all s (call_or_refuse w c n).entries).bytes q ≡ bytes_after (left_in q n w c) (s.bytes q)) (sym v) (sym (ap (λ w. bytes_after w (s.bytes q)) (left_none q n why c)))

abbrev IsSilent : List Entry → Type 0
IsSilent entries = (s : State) (q : Name) → (after_all s entries).bytes q ≡ s.bytes q

silent_message : (n : Node) (from : ℕ) (k : Kind) → IsSilent (node_handles from k n).entries
silent_message n from k = leaves_deed n (Hears from k) (node_handles from k n) (message_deed n from k) tt

silent_piece : (p : Piece) (n : Node) → IsSilent (receives p n).entries
silent_piece p n = received (λ o. IsSilent o.entries) p n (λ parcels part. silent_message (record n { parcels = parcels }) p.message.sender (with_load part p.message.kind)) (λ parcels key h s q. refl)

silent_collected : (n : Node) (a : Activity) → IsSilent (collects a n).entries
silent_collected n Free s q = refl
silent_collected n (Waiting awaited) s q = refl
silent_collected n (Ready answer) s q = refl

silent_handled : (i : ℕ) (e : Event) (o : Option (Taken Piece)) (w : World) → IsSilent (handles_at i e o w).entries
silent_handled i e None w s q = refl
silent_handled i e (Some t) w s q = silent_piece t.taken (record (w.nodes i) { inbox = t.rest }) s q

silent_carried : (i : ℕ) (e : Event) (o : Option (Taken Piece)) (w : World) → IsSilent (carries i e o w).entries
silent_carried i e None w s q = refl
silent_carried i e (Some t) w s q = refl

leaves_event : (e : Event) (w : World) (s : State) (q : Name) → (after_all s (step e w).entries).bytes q ≡ array_after q e w (s.bytes q)
unfolding step
leaves_event (event.Call i c) w s q = leaves_call (w.nodes i) c s q
leaves_event (event.Collect i) w s q = silent_collected (w.nodes i) (w.nodes i).activity s q
leaves_event (event.Handle i place) w s q = silent_handled i (event.Handle i place) (take_out place (w.nodes i).inbox) w s q
leaves_event (event.Carry i place) w s q = silent_carried i (event.Carry i place) (take_out place (w.nodes i).outbox) w s q

all_append : (s : State) (xs ys : List Entry) → after_all s (xs ++ ys) ≡ after_all (after_all s xs) ys
all_append s [] ys = refl
all_append s (x ∷ xs) ys = all_append (change s x.node x.what) xs ys

leaves_run : (es : List Event) (w : World) (s : State) (q : Name) → (after_all s (account_from w es)).bytes q ≡ array_from q w es (s.bytes q)
leaves_run [] w s q = refl
leaves_run (e ∷ es) w s q =
    ap (λ (x : State). x.bytes q) (all_append s (step e w).entries (account_from (step e w).world es)) ∙ leaves_run es (step e w).world (after_all s (step e w).entries) q
    ∙ ap (λ b. array_from q (step e w).world es b) (leaves_event e w s q)

pub array_accounted : (count capacity : ℕ) (run : List Event) (name : Name) → (after_all (start count) (account count capacity run)).bytes name ≡ array_of name count capacity run
array_accounted count capacity run name = leaves_run run (new_world count capacity) (start count) name
