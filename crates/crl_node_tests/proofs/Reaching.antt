-- Worlds to which a run leads: one event more leads to the next, and what is known of them.
use Rattle.std.proofs.Common.{◌≡◌, ◌∙◌, refl, sym, ap, subst, ◌+◌, ◌<◌, ◌≤◌, ◌^◌, Bool, true, false, Option, Some, None, ℕ, zero, suc, List, [], ◌∷◌, ◌++◌, length, arith}
use Rattle.std.specs.Prelude.{MatchResult, slice_get}
use Rattle.std.specs.List.{AllByRecursion}
use Rattle.std.specs.declared.result.Result.{Result}
use Rattle.std.specs.declared.result.Result.TheVariants.{Ok, Err}
use Rattle.std.proofs.lemmas.Bool.{and_parts, and_from, ltb-true, lt-ltb}
use Rattle.std.proofs.lemmas.List.{length-append}
use Rattle.crl_model.specs.declared.choice.Choice.{Choice}
use Rattle.crl_model.specs.declared.event.Event.{Event}
use Rattle.crl_model.specs.declared.event.Event.TheVariants as event
use Rattle.crl_model.specs.declared.call.Call.{Call}
use Rattle.crl_protocol.specs.Parcels.{Piece}
use Rattle.crl_protocol.specs.Places.{Taken, take_out, behind}
use Rattle.crl_protocol.specs.Sections.{Guard}
use Rattle.crl_protocol.specs.Node.{Answer, Activity, Free, Waiting, Ready}
use Rattle.crl_protocol.specs.World.{World, new_world, step, is_enabled, handles_at, carries}
use Rattle.crl_protocol.specs.Chosen.{handles_of, carries_of}
use Rattle.crl_safety.specs.Safety.{IsSafe, PieceIsSafe}
use Rattle.crl_deeds.proofs.Laws.{all_append, world_grows, taken_there, turn_events, turn_of}
use Rattle.crl_regions.proofs.Laws.{count_in_run}
use Rattle.crl_history.proofs.Laws.{run_then}
use Rattle.crl_sound.proofs.Laws.{nodes_safe, pieces_safe, pieces_leave}
use Rattle.crl_member.specs.Members.{TakenIsSafe, TakenIsInTable}
use Rattle.crl_wire.specs.Frame.{IsInTable}
use Rattle.crl_frames.specs.Frames.{HoldsOf}
use Rattle.crl_frames.proofs.Laws.{all_to_carry}
use Rattle.crl_world.specs.Seen.{NodesAreSafe}
use Rattle.crl_world.specs.Starting.{IsStarted}
use Rattle.crl_world.specs.Stepping.{StepIsDone, EventIsDone, CallIsUndone, StepIsUndone, EndIsDone, EndIsUndone, GoesElsewhere}
use Rattle.crl_world.specs.Choosing.{next_if, row_from, choices_by}
use Rattle.crl_world.specs.declared.faults.CallFault.{CallFault}
use Rattle.crl_world.specs.declared.faults.CallFault.TheVariants as call_fault
use Rattle.crl_world.specs.declared.faults.EndFault.{EndFault}
use Rattle.crl_world.specs.declared.faults.EndFault.TheVariants as end_fault
use Rattle.crl_world.specs.declared.faults.StepFault.{StepFault}
use Rattle.crl_world.specs.declared.faults.StepFault.TheVariants as step_fault
use Rattle.crl_node_tests.specs.Reached.{IsReached, MayPass}
use Rattle.crl_run.proofs.Laws.{at_get}

-- ---- one event more

pub reached_first : (nodes capacity : ℕ) (w : World) → IsStarted nodes capacity w → IsReached w
reached_first nodes capacity w h = record {
  count = nodes;
  capacity = capacity;
  run = [];
  enabled = tt;
  world = h.world;
  events = ap (λ (x : World). x.events) h.world;
}

pub reached_after : (e : Event) (w v : World) → IsReached w → is_enabled e w ≡ true → v ≡ (step e w).world → IsReached v
reached_after e w v r may is = record {
  count = r.count;
  capacity = r.capacity;
  run = r.run ++ e ∷ [];
  enabled = run_then (new_world r.count r.capacity) r.run e r.enabled (subst (λ (x : World). is_enabled e x ≡ true) r.world may);
  world = is ∙ ap (λ (x : World). (step e x).world) r.world ∙ sym (world_grows (new_world r.count r.capacity) r.run e);
  events = ap (λ (x : World). x.events) is ∙ turn_events w _ (turn_of w e may) ∙ ap (λ k. k + 1) r.events ∙ sym (length-append r.run (e ∷ []));
}

pub call_reached : (i : ℕ) (c : Call) (w v : World) (r : Result Answer CallFault) → IsReached w → is_enabled (event.Call i c) w ≡ true → MatchResult r (StepIsDone (event.Call i c) w v) (CallIsUndone c w v) → IsReached v
call_reached i c w v (Ok given) h may m = reached_after (event.Call i c) w v h may m.world
call_reached i c w v (Err (call_fault.Spent back)) h may m = subst IsReached (sym m.1.world) h
call_reached i c w v (Err (call_fault.OutOfMemory back)) h may m = subst IsReached (sym m.1.world) h

event_reached : {A : Type 0} (Good : A → Type 0) (e : Event) (w v : World) (r : Result A StepFault) → ((a : A) → Good a → v ≡ (step e w).world) → IsReached w → is_enabled e w ≡ true → MatchResult r Good (StepIsUndone w v) → IsReached v
event_reached Good e w v (Ok a) good h may m = reached_after e w v h may (good a m)
event_reached Good e w v (Err step_fault.Spent) good h may m = subst IsReached (sym m.world) h
event_reached Good e w v (Err step_fault.OutOfMemory) good h may m = subst IsReached (sym m.world) h

pub collect_reached : (i : ℕ) (w v : World) (r : Result Answer StepFault) → IsReached w → is_enabled (event.Collect i) w ≡ true → MatchResult r (StepIsDone (event.Collect i) w v) (StepIsUndone w v) → IsReached v
collect_reached i w v r h may m = event_reached (StepIsDone (event.Collect i) w v) (event.Collect i) w v r (λ a d. d.world) h may m

pub passed_reached : {U : Type 0} (e : Event) (w v : World) (r : Result U StepFault) → IsReached w → is_enabled e w ≡ true → MatchResult r (λ u. EventIsDone e w v) (StepIsUndone w v) → IsReached v
passed_reached e w v r h may m = event_reached (λ u. EventIsDone e w v) e w v r (λ a d. d.world) h may m

pub end_reached : {U : Type 0} (fits : Bool) (g : Guard) (c : Call) (w v : World) (r : Result U (EndFault Guard)) → IsReached w → is_enabled (event.Call g.node c) w ≡ true
    → MatchResult r (λ u. EndIsDone fits g c w v) (EndIsUndone fits g w v) → IsReached v
end_reached fits g c w v (Ok u) h may m = reached_after (event.Call g.node c) w v h may m.world
end_reached fits g c w v (Err (end_fault.Foreign back)) h may m = subst IsReached (sym m.2) h
end_reached fits g c w v (Err (end_fault.Spent back)) h may m = subst IsReached (sym m.2.world) h

-- ---- what is known

module _ (w : World) (r : IsReached w) where
  counted : w.count ≡ r.count
  counted = ap (λ (x : World). x.count) r.world ∙ count_in_run r.count r.capacity r.run r.enabled

  pub all_safe : w.events ≤ 1000000 → NodesAreSafe w
  all_safe few =
      let many = r.events in
      let limit : length r.run ≤ 2 ^ 62 = omega arith in
      record { safe = λ i below. subst (λ (x : World). IsSafe (x.nodes i)) (sym r.world) (nodes_safe r.count r.capacity r.run (record { enabled = r.enabled; limit = limit }) i (subst (λ n. i < n) counted below)) }

  pub piece_safe : (i place : ℕ) → i < w.count → TakenIsSafe (w.nodes i) (take_out place (w.nodes i).inbox)
  piece_safe i place below = go (take_out place (w.nodes i).inbox) refl
    where
      go : (o : Option (Taken Piece)) → take_out place (w.nodes i).inbox ≡ o → TakenIsSafe (w.nodes i) o
      go None e = tt
      go (Some t) e = subst (λ (x : World). PieceIsSafe (x.nodes i) t.taken) (sym r.world)
          (pieces_safe r.count r.capacity r.run r.enabled i place t (subst (λ n. i < n) counted below) (subst (λ (x : World). take_out place (x.nodes i).inbox ≡ Some t) r.world e))

  pub piece_leaves : (i place : ℕ) → i < w.count → GoesElsewhere i w.count (take_out place (w.nodes i).outbox)
  piece_leaves i place below = go (take_out place (w.nodes i).outbox) refl
    where
      go : (o : Option (Taken Piece)) → take_out place (w.nodes i).outbox ≡ o → GoesElsewhere i w.count o
      go None e = tt
      go (Some t) e =
          let leaves = pieces_leave r.count r.capacity r.run r.enabled i place t (subst (λ n. i < n) counted below) (subst (λ (x : World). take_out place (x.nodes i).outbox ≡ Some t) r.world e) in
          (subst (λ n. t.taken.message.addressee < n) (sym counted) leaves.addressee, leaves.other)

  pub piece_framed : w.events ≤ 1000000 → (i place : ℕ) → i < w.count → w.count ≤ 64 → TakenIsInTable (take_out place (w.nodes i).outbox)
  piece_framed few i place below nodes =
      let many = r.events in
      let limit : length r.run ≤ 2 ^ 62 = omega arith in
      subst (λ (x : World). TakenIsInTable (take_out place (x.nodes i).outbox)) (sym r.world)
      (go _ (all_to_carry r.count r.capacity r.run (subst (λ n. n ≤ 64) counted nodes) (record { enabled = r.enabled; limit = limit }) i place (subst (λ (x : World). i < x.count) r.world below)))
    where
      go : (o : Option (Taken Piece)) → HoldsOf IsInTable o → TakenIsInTable o
      go None h = tt
      go (Some t) h = h

-- ---- the choices

next_passes : (w : World) (i : ℕ) (left : Bool) (a : Activity) → AllByRecursion (MayPass w) (next_if i left a)
next_passes w i left (Waiting awaited) = tt
next_passes w i left (Ready answer) = (tt, tt)
next_passes w i true Free = (tt, tt)
next_passes w i false Free = tt

handles_pass : (w : World) (i place : ℕ) (ms : List Piece) → i < w.count → place + length ms ≡ length (w.nodes i).inbox → AllByRecursion (MayPass w) (handles_of i place ms)
unfolding is_enabled
handles_pass w i place [] h e = tt
handles_pass w i place (m ∷ ms) h e =
    (and_from _ _ (lt-ltb i w.count h) (lt-ltb place (length (w.nodes i).inbox) (omega arith)), handles_pass w i (place + 1) ms h (omega arith))

carries_pass : (w : World) (i place : ℕ) (ms : List Piece) → i < w.count → place + length ms ≡ length (w.nodes i).outbox → AllByRecursion (MayPass w) (carries_of i place ms)
unfolding is_enabled
carries_pass w i place [] h e = tt
carries_pass w i place (m ∷ ms) h e =
    (and_from _ _ (lt-ltb i w.count h) (lt-ltb place (length (w.nodes i).outbox) (omega arith)), carries_pass w i (place + 1) ms h (omega arith))

row_passes : (P : Choice → Type 0) (f : ℕ → List Choice) (i k n : ℕ) → i + k ≤ n → ((j : ℕ) → j < n → AllByRecursion P (f j)) → AllByRecursion P (row_from f i k)
row_passes P f i zero n within h = tt
row_passes P f i (suc k) n within h = all_append P (f i) (row_from f (i + 1) k) (h i (omega arith)) (row_passes P f (i + 1) k n (omega arith) h)

choices_pass : (left : ℕ → Bool) (w : World) → AllByRecursion (MayPass w) (choices_by left w)
choices_pass left w =
    all_append (MayPass w) _ _ (row_passes (MayPass w) (λ i. next_if i (left i) (w.nodes i).activity) 0 w.count w.count (omega arith) (λ j h. next_passes w j (left j) (w.nodes j).activity))
    (all_append (MayPass w) _ _ (row_passes (MayPass w) (λ i. handles_of i 0 (w.nodes i).inbox) 0 w.count w.count (omega arith) (λ j h. handles_pass w j 0 (w.nodes j).inbox h (omega arith)))
    (row_passes (MayPass w) (λ i. carries_of i 0 (w.nodes i).outbox) 0 w.count w.count (omega arith) (λ j h. carries_pass w j 0 (w.nodes j).outbox h (omega arith))))

pub choice_passes : (left : ℕ → Bool) (w : World) (k : ℕ) (c : Choice) → slice_get (choices_by left w) k ≡ Some c → MayPass w c
choice_passes left w k c e = at_get (MayPass w) (choices_by left w) k c (choices_pass left w) e
