-- A held node, before its event and after it.
use Rattle.std.proofs.Common.{◌≡◌, ◌≢◌, ℕ, ◌<◌, ◌≤◌, ◌^◌, ◌==◌, ◌&&◌, nat_lt, Bool, true, false, List, [], ◌∷◌, ◌++◌, length, refl, sym, ap, ap₂, ◌∙◌, subst, Option, Some, None}
use Rattle.std.proofs.lemmas.Bool.{lt-ltb, and_parts}
use Rattle.crl_model.specs.declared.call.Call.TheVariants.{Create, Delete, Map, Unmap, StartRead, EndRead, StartWrite, EndWrite, Put, Add, Flush, Come}
use Rattle.crl_model.specs.declared.call.Refusal.{Refusal}
use Rattle.crl_cluster.specs.Trying.{may_go, can_make}
use Rattle.crl_protocol.specs.Sections.{Guard, OpenSection, section_bytes}
use Rattle.crl_member.specs.Fitting.{fits_open_write, fits_writing, goes_by_guard, MayCall}
use Rattle.crl_model.specs.declared.call.Call.{Call}
use Rattle.crl_model.specs.declared.event.Event.{Event}
use Rattle.crl_model.specs.declared.event.Event.TheVariants as event
use Rattle.crl_protocol.specs.Parcels.{Piece}
use Rattle.crl_protocol.specs.Places.{Taken, take_out}
use Rattle.crl_protocol.specs.Node.{Node, Answer, Done}
use Rattle.crl_protocol.specs.Talk.{hears_of}
use Rattle.crl_protocol.specs.Verdict.{verdict}
use Rattle.crl_protocol.specs.World.{new_world, step, is_enabled, is_free, is_ready, is_call, IsRunFrom, commits, noted_call, without_bytes}
use Rattle.crl_deeds.specs.Laws.{node_of}
use Rattle.crl_member.specs.Members.{TakenIsSafe, TakenIsInTable, CallIsDone, CollectIsDone, CarryIsDone, node_after_handle, addressee_of}
use Rattle.crl_protocol.specs.Calls.{node_calls}
use Rattle.crl_safety.specs.Safety.{IsSafe}
use Rattle.crl_sound.proofs.Laws.{pieces_safe, pieces_leave}
use Rattle.crl_wire.specs.Frame.{IsInTable}
use Rattle.crl_frames.specs.Frames.{HoldsOf}
use Rattle.crl_frames.proofs.Laws.{all_to_carry}
use Rattle.crl_turns.specs.declared.turned.Shape.{Shape}
use Rattle.crl_turns.specs.declared.view.View.{View}
use Rattle.crl_turns.specs.Calls.{HasValue}
use Rattle.crl_turns.specs.Fronts.{Runs}
use Rattle.crl_turns.proofs.Laws.{holds_what_it_has}
use Rattle.crl_cluster.specs.Standing.{world_at, heard_at, MayCome, hears_then}
use Rattle.crl_cluster.specs.declared.cluster.Pass.{Pass}
use Rattle.crl_cluster.specs.Clusters.{view_of}
use Rattle.crl_cluster.specs.Acting.{Comes, ComesAt, IsDone}
use Rattle.crl_cluster.proofs.Growing.{has_as}
use Rattle.crl_cluster.proofs.Landing.{call_lands, call_answers, collect_lands, collect_answers, handle_lands, carry_sends, carry_puts}
use Rattle.crl_cluster.proofs.Worlds.{count_at, safe_at, run_of}
use Rattle.crl_deeds.proofs.Laws.{taken_there}

both : (a b : Bool) → a ≡ true → b ≡ true → (a && b) ≡ true
both a b x y = ap₂ (λ (p q : Bool). p && q) x y

pub runs_of : (s : Shape) (pass : Pass) → pass.shape ≡ s → Runs (MayCome s) (view_of pass).front
runs_of s pass same = subst (λ (k : Shape). Runs (MayCome k) (view_of pass).front) same pass.runs

-- Before the event: the node is the one of the front, which is a run.
module _ (s : Shape) (front : List Event) (runs : Runs (MayCome s) front) (i : ℕ) (few : i < s.parts) (n : Node) (is : n ≡ (world_at s front).nodes i) where
  pub node_safe : length front ≤ 2 ^ 62 → IsSafe n
  node_safe limit = subst (λ (m : Node). IsSafe m) (sym is) (safe_at s front (run_of s front runs) limit i few)

  below : nat_lt i (world_at s front).count ≡ true
  below = lt-ltb i (world_at s front).count (subst (λ k. i < k) (sym (count_at s front (run_of s front runs))) few)

  pub call_may : (c : Call) → is_free n.activity ≡ true → is_call n c (verdict n c) ≡ true → MayCome s front (event.Call i c)
  unfolding is_enabled
  call_may c free may =
      both _ _ below (subst (λ (m : Node). (is_free m.activity && is_call m c (verdict m c)) ≡ true) is (both _ _ free may))

  -- the end of a section, which is allowed
  pub end_may : (c : Call) → is_free n.activity ≡ true → verdict n c ≡ None → is_call n c None ≡ true → MayCome s front (event.Call i c)
  end_may c free allowed fits = call_may c free (ap (is_call n c) allowed ∙ fits)

  pub collect_may : is_ready n.activity ≡ true → MayCome s front (event.Collect i)
  unfolding is_enabled
  collect_may ready = both _ _ below (subst (λ (m : Node). is_ready m.activity ≡ true) is ready)

  pub handle_may : (place : ℕ) → place < length n.inbox → MayCome s front (event.Handle i place)
  unfolding is_enabled
  handle_may place there = both _ _ below (subst (λ (m : Node). nat_lt place (length m.inbox) ≡ true) is (lt-ltb place (length n.inbox) there))

  pub piece_safe : (place : ℕ) → TakenIsSafe n (take_out place n.inbox)
  piece_safe place = subst (λ (m : Node). TakenIsSafe m (take_out place m.inbox)) (sym is) (go (take_out place ((world_at s front).nodes i).inbox) refl)
    where
      go : (o : Option (Taken Piece)) → take_out place ((world_at s front).nodes i).inbox ≡ o → TakenIsSafe ((world_at s front).nodes i) o
      go None e = tt
      go (Some t) e = pieces_safe s.parts s.extra front (run_of s front runs) i place t few e

-- A call that goes may be made.
call_goes : (n : Node) (c : Call) (o : Option Refusal) → may_go c o ≡ true → (is_call n c o ≡ true) × (goes_by_guard c o ≡ false)
call_goes n c (Some why) go = (refl, refl)
call_goes n (EndRead name) None go = cc
call_goes n (EndWrite name after) None go = cc
call_goes n (Put name offset len) None go = cc
call_goes n (Add name offset) None go = cc
call_goes n (Create size) None go = (refl, refl)
call_goes n (Delete name) None go = (refl, refl)
call_goes n (Map name) None go = (refl, refl)
call_goes n (Unmap name) None go = (refl, refl)
call_goes n (StartRead name) None go = (refl, refl)
call_goes n (StartWrite name) None go = (refl, refl)
call_goes n (Flush name) None go = (refl, refl)
call_goes n (Come part) None go = (refl, refl)

pub may_call : (n : Node) (c : Call) → can_make c n ≡ true → MayCall n c
may_call n c can = let goes = call_goes n c (verdict n c) (and_parts _ _ can).1 in record { enabled = goes.0; unguarded = goes.1 }

-- A guard that fits has as many bytes as its section.
same_size : (g : Guard) (o : Option OpenSection) → fits_open_write g o ≡ true → (length g.bytes == length (section_bytes o)) ≡ true
same_size g None fits = cc
same_size g (Some r) fits = (and_parts _ _ (and_parts _ _ fits).1).1

pub write_fits : (n : Node) (g : Guard) → fits_writing n g ≡ true → is_call n (EndWrite g.name g.bytes) None ≡ true
write_fits n g fits = same_size g (n.sections.records g.name) (and_parts _ _ fits).1

-- After the event.
module _ (s : Shape) (e : Event) (old new : View) (came : Comes s e old new) where
  pub has_still : (i : ℕ) → HasValue i old → HasValue i new
  has_still i has = has_as i old new (ap (λ (v : View). v.holds) came.view) has

  pub node_then : (i : ℕ) (n : Node) → n ≡ (world_at s (came.before ++ e ∷ [])).nodes i → n ≡ (world_at s new.front).nodes i
  node_then i n is = is ∙ ap (λ l. (world_at s l).nodes i) (sym came.front)

  pub heard_then : (answer : Answer) → HasValue (node_of e) old → answer ≡ (step e (world_at s came.before)).answer
      → heard_at s (node_of e) new.front ≡ heard_at s (node_of e) old.front ++ hears_of (node_of e) e answer
  heard_then answer has is =
      ap (heard_at s (node_of e)) came.front ∙ hears_then (node_of e) (new_world s.parts s.extra) came.before e
      ∙ ap (λ hs. hs ++ hears_of (node_of e) e (step e (world_at s came.before)).answer) (came.grows.heard (node_of e) (holds_what_it_has (node_of e) old has))
      ∙ ap (λ a. heard_at s (node_of e) old.front ++ hears_of (node_of e) e a) (sym is)

  pub done : (answer : Answer) → HasValue (node_of e) old → answer ≡ (step e (world_at s came.before)).answer → IsDone s e old answer new
  done answer has is = record { comes = came; answer_is = is; heard = heard_then answer has is }

  -- the node before the event stands at the history that the event came behind
  pub node_before : (i : ℕ) (n : Node) → HasValue i old → n ≡ (world_at s old.front).nodes i → n ≡ (world_at s came.before).nodes i
  node_before i n has is = is ∙ sym (came.grows.nodes i (holds_what_it_has i old has))

-- What each event leaves of the held node, and what it tells.
module _ (s : Shape) (old new : View) (i : ℕ) (has : HasValue i old) (at : ℕ) (n m : Node) (is : n ≡ (world_at s old.front).nodes i) where
  module _ (e : Event) (came : ComesAt at s e old new) where
    run_before : IsRunFrom (new_world s.parts s.extra) came.comes.before
    run_before = came.comes.run.enabled

    before_is : n ≡ (world_at s came.comes.before).nodes i
    before_is = node_before s e old new came.comes i n has is

    lands : m ≡ (world_at s (came.comes.before ++ e ∷ [])).nodes i → m ≡ (world_at s new.front).nodes i
    lands there = node_then s e old new came.comes i m there

  pub call_done : (c : Call) (answer : Answer) → ComesAt at s (event.Call i c) old new → CallIsDone at c n m answer → (m ≡ (world_at s new.front).nodes i) × IsDone s (event.Call i c) old answer new
  call_done c answer came did =
      let e = event.Call i c in (
        lands e came (call_lands s i came.comes.before (run_before e came) at came.at_is n (before_is e came) c m answer did),
        done s e old new came.comes answer has (call_answers s i came.comes.before (run_before e came) at came.at_is n (before_is e came) c m answer did),
      )

  pub collect_done : (answer : Answer) → ComesAt at s (event.Collect i) old new → CollectIsDone at n m answer → (m ≡ (world_at s new.front).nodes i) × IsDone s (event.Collect i) old answer new
  collect_done answer came did =
      let e = event.Collect i in (
        lands e came (collect_lands s i came.comes.before (run_before e came) at came.at_is n (before_is e came) m answer did),
        done s e old new came.comes answer has (collect_answers s i came.comes.before (run_before e came) at came.at_is n (before_is e came) m answer did),
      )

  pub handle_done : (place : ℕ) → place < length n.inbox → ComesAt at s (event.Handle i place) old new → m ≡ node_after_handle at place n → m ≡ (world_at s new.front).nodes i
  handle_done place there came did =
      let e = event.Handle i place in
      lands e came (handle_lands s i came.comes.before (run_before e came) at came.at_is n (before_is e came) place m
      (taken_there place ((world_at s came.comes.before).nodes i).inbox (subst (λ (k : Node). place < length k.inbox) (before_is e came) there)) did)

  -- the end of a section, which is allowed and answered with Done
  pub end_done : (c : Call) → verdict n c ≡ None → (node_calls c n).answer ≡ Done → ComesAt at s (event.Call i c) old new → m ≡ commits at (event.Call n.me (without_bytes c)) (node_calls c n)
      → (m ≡ (world_at s new.front).nodes i) × IsDone s (event.Call i c) old Done new
  end_done c allowed answers came did =
      let e = event.Call i c in
      let ended : CallIsDone at c n m (node_calls c n).answer = record { node = did ∙ ap (λ v. commits at (event.Call n.me (noted_call v c)) (node_calls c n)) (sym allowed); answer = refl } in
      let d = call_done c (node_calls c n).answer came ended in
      (d.0, subst (λ a. IsDone s e old a new) answers d.1)

-- A piece that is carried goes to another node, which the pass has too.
module _ (s : Shape) (front : List Event) (run : IsRunFrom (new_world s.parts s.extra) front) (i place : ℕ) (few : i < s.parts) (n : Node) (is : n ≡ (world_at s front).nodes i) (there : place < length n.outbox) where
  leaves : (o : Option (Taken Piece)) → take_out place ((world_at s front).nodes i).outbox ≡ o → (o ≡ None → ⊥) → (addressee_of o < s.parts) × (addressee_of o ≢ i)
  leaves None e some = absurd (some refl)
  leaves (Some t) e some = let leave = pieces_leave s.parts s.extra front run i place t few e in (leave.addressee, leave.other)

  pub some_there : take_out place ((world_at s front).nodes i).outbox ≡ None → ⊥
  some_there = taken_there place ((world_at s front).nodes i).outbox (subst (λ (k : Node). place < length k.outbox) is there)

  pub addressee_away : (addressee_of (take_out place n.outbox) < s.parts) × (addressee_of (take_out place n.outbox) ≢ i)
  addressee_away = subst (λ (k : Node). (addressee_of (take_out place k.outbox) < s.parts) × (addressee_of (take_out place k.outbox) ≢ i)) (sym is)
      (leaves (take_out place ((world_at s front).nodes i).outbox) refl some_there)

  pub carry_may : MayCome s front (event.Carry i place)
  unfolding is_enabled
  carry_may =
      both _ _ (lt-ltb i (world_at s front).count (subst (λ k. i < k) (sym (count_at s front run)) few)) (subst (λ (m : Node). nat_lt place (length m.outbox) ≡ true) is (lt-ltb place (length n.outbox) there))

  -- it is one of the table of frames, among at most 64 nodes
  pub piece_framed : s.parts ≤ 64 → length front ≤ 2 ^ 62 → TakenIsInTable (take_out place n.outbox)
  piece_framed nodes limit =
      subst (λ (k : Node). TakenIsInTable (take_out place k.outbox)) (sym is)
      (go _ (all_to_carry s.parts s.extra front nodes (record { enabled = run; limit = limit }) i place (subst (λ k. i < k) (sym (count_at s front run)) few)))
    where
      go : (o : Option (Taken Piece)) → HoldsOf IsInTable o → TakenIsInTable o
      go None h = tt
      go (Some t) h = h

pub carry_done : (s : Shape) (old new : View) (i j place at : ℕ) (n m n_new m_new : Node) → HasValue i old → HasValue j old → i < s.parts
    → n ≡ (world_at s old.front).nodes i → m ≡ (world_at s old.front).nodes j → place < length n.outbox → addressee_of (take_out place n.outbox) ≡ j
    → ComesAt at s (event.Carry i place) old new → CarryIsDone at place n m n_new m_new → (n_new ≡ (world_at s new.front).nodes i) × (m_new ≡ (world_at s new.front).nodes j)
carry_done s old new i j place at n m n_new m_new has_i has_j few n_is m_is there to came did =
    let e = event.Carry i place in
    let before = came.comes.before in
    let run = came.comes.run.enabled in
    let n_before = node_before s e old new came.comes i n has_i n_is in
    let m_before = node_before s e old new came.comes j m has_j m_is in
    let to_before : addressee_of (take_out place ((world_at s before).nodes i).outbox) ≡ j = ap (λ (x : Node). addressee_of (take_out place x.outbox)) (sym n_before) ∙ to in
    let apart : j ≢ i = λ same. (addressee_away s before run i place few n n_before there).1 (to ∙ same) in
    let some = some_there s before run i place few n n_before there in (
      node_then s e old new came.comes i n_new (carry_sends s i j place before run at came.at_is n m n_before m_before some to_before apart n_new did.sender),
      node_then s e old new came.comes j m_new (carry_puts s i j place before run at came.at_is n m n_before m_before some to_before apart m_new did.addressee),
    )
