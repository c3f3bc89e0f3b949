-- What a member did, as what the world did.
use Rattle.std.proofs.Common.{◌≡◌, ℕ, ◌+◌, ◌<◌, ◌^◌, true, false, List, length, get_or, set, refl, ap, sym, ◌∙◌, subst, arith, map}
use Rattle.std.proofs.lemmas.List.{length-map}
use Rattle.crl_model.specs.declared.call.Call.{Call}
use Rattle.crl_model.specs.declared.event.Event.{Event}
use Rattle.crl_model.specs.declared.event.Event.TheVariants as event
use Rattle.crl_protocol.specs.Node.{Node, Answer}
use Rattle.crl_protocol.specs.Verdict.{verdict}
use Rattle.crl_protocol.specs.Calls.{node_calls}
use Rattle.crl_protocol.specs.World.{World, step, is_enabled, collects}
use Rattle.crl_safety.specs.Safety.{IsSafe}
use Rattle.crl_member.specs.Fitting.{MayCall, goes_by_guard}
use Rattle.crl_member.specs.Members.{CallIsDone, CollectIsDone, node_after_handle}
use Rattle.crl_world.specs.Members.{Members}
use Rattle.crl_world.specs.Seen.{world_of_nodes, world_seen, IsKept, NodesAreSafe}
use Rattle.crl_world.specs.Stepping.{StepIsDone, EventIsDone, IsRefusedForMemory}
use Rattle.crl_world.proofs.Keeping.{kept_step}
use Rattle.crl_world.proofs.Nodes.{node_of_value, world_stays}
use Rattle.crl_world.proofs.Events as of
use Rattle.crl_deeds.proofs.Laws as enabled

call_answer : (i : ℕ) (c : Call) (w : World) → (node_calls c (w.nodes i)).answer ≡ (step (event.Call i c) w).answer
unfolding step
call_answer i c w = refl

collect_answer : (i : ℕ) (w : World) → (collects (w.nodes i).activity (w.nodes i)).answer ≡ (step (event.Collect i) w).answer
unfolding step
collect_answer i w = refl

-- A member n stands at place i of the world s, which has these values.
pub record Stands {N : Type 0} (state : N → Node) (xs : List N) (events capacity i : ℕ) (n : N) (s : Members N) : Type 0 where
  pub is : record { nodes = xs; events = events; capacity = capacity } ≡ s
  pub below : i < length s.nodes
  pub here : n ≡ get_or xs i n
  pub kept : IsKept (world_of_nodes (map state xs) events capacity)

module _ {N : Type 0} {state : N → Node} {xs : List N} {events capacity i : ℕ} {n : N} {s : Members N} (b : Stands state xs events capacity i n s) where
  abbrev pub old : World
  old = world_of_nodes (map state xs) events capacity

  pub seen : old ≡ world_seen state s
  seen = ap (world_seen state) b.is

  pub below : i < length xs
  below = subst (λ (t : Members N). i < length t.nodes) (sym b.is) b.below

  pub node_is : state n ≡ (world_seen state s).nodes i
  node_is = ap state b.here ∙ node_of_value state xs capacity i n below ∙ ap (λ (w : World). w.nodes i) seen

  -- what is known of the world is known of the member
  pub of_node : (P : Node → Type 0) → P ((world_seen state s).nodes i) → P (state n)
  of_node P h = subst P (sym node_is) h

  pub to_node : (P : Node → Type 0) → P (state n) → P (old.nodes i)
  to_node P h = subst P (node_is ∙ sym (ap (λ (w : World). w.nodes i) seen)) h

  pub is_safe : NodesAreSafe (world_seen state s) → IsSafe (state n)
  is_safe safe = of_node IsSafe (safe.safe i (subst (λ k. i < k) (sym (length-map s.nodes state)) b.below))

  -- there is room for one more event
  pub has_room : (events ≡ 2 ^ 62 → ⊥) → events < 2 ^ 62
  has_room full = let few = b.kept.events in omega arith

  pub may_call : (c : Call) → is_enabled (event.Call i c) (world_seen state s) ≡ true → goes_by_guard c (verdict ((world_seen state s).nodes i) c) ≡ false → MayCall (state n) c
  may_call c may free = of_node (λ m. MayCall m c) (record { enabled = (enabled.may_call i c (world_seen state s) may).2; unguarded = free })

  -- the member is another one now
  module _ (x : N) where
    abbrev pub new : World
    new = world_of_nodes (map state (set xs i x)) (events + 1) capacity

    pub kept_event : (e : Event) → is_enabled e (world_seen state s) ≡ true → events < 2 ^ 62 → new ≡ (step e old).world → IsKept new
    kept_event e may room is = subst IsKept (sym is) (kept_step old e (ap (is_enabled e) seen ∙ may) room b.kept)

    -- nothing happened
    pub stays : state x ≡ state n → world_of_nodes (map state (set xs i x)) events capacity ≡ world_seen state s
    stays same = world_stays state xs events capacity i x n (same ∙ ap state b.here) ∙ seen

    pub kept_stays : state x ≡ state n → IsKept (world_of_nodes (map state (set xs i x)) events capacity)
    kept_stays same = subst IsKept (sym (world_stays state xs events capacity i x n (same ∙ ap state b.here))) b.kept

    pub not_done : state x ≡ state n → events < 2 ^ 62 → IsRefusedForMemory (world_seen state s) (world_of_nodes (map state (set xs i x)) events capacity)
    not_done same room = subst (λ (w : World). IsRefusedForMemory w (world_of_nodes (map state (set xs i x)) events capacity)) seen (record { room = room; world = stays same ∙ sym seen })

    -- a call
    pub call_step : (c : Call) (answer : Answer) → CallIsDone events c (state n) (state x) answer → new ≡ (step (event.Call i c) old).world
    call_step c answer d = of.call_world state xs events capacity i x below (b.kept.numbered i) c (to_node (λ m. CallIsDone events c m (state x) answer) d).node

    pub call_done : (c : Call) (answer : Answer) → events < 2 ^ 62 → CallIsDone events c (state n) (state x) answer → StepIsDone (event.Call i c) (world_seen state s) new answer
    call_done c answer room d =
        subst (λ w. StepIsDone (event.Call i c) w new answer) seen
        (record { room = room; world = call_step c answer d; answer = (to_node (λ m. CallIsDone events c m (state x) answer) d).answer ∙ call_answer i c old })

    pub call_kept : (c : Call) (answer : Answer) → is_enabled (event.Call i c) (world_seen state s) ≡ true → events < 2 ^ 62 → CallIsDone events c (state n) (state x) answer → IsKept new
    call_kept c answer may room d = kept_event (event.Call i c) may room (call_step c answer d)

    -- an answer that is taken
    pub collect_step : (answer : Answer) → CollectIsDone events (state n) (state x) answer → new ≡ (step (event.Collect i) old).world
    collect_step answer d = of.collect_world state xs events capacity i x below (b.kept.numbered i) (to_node (λ m. CollectIsDone events m (state x) answer) d).node

    pub collect_done : (answer : Answer) → events < 2 ^ 62 → CollectIsDone events (state n) (state x) answer → StepIsDone (event.Collect i) (world_seen state s) new answer
    collect_done answer room d =
        subst (λ w. StepIsDone (event.Collect i) w new answer) seen
        (record { room = room; world = collect_step answer d; answer = (to_node (λ m. CollectIsDone events m (state x) answer) d).answer ∙ collect_answer i old })

    pub collect_kept : (answer : Answer) → is_enabled (event.Collect i) (world_seen state s) ≡ true → events < 2 ^ 62 → CollectIsDone events (state n) (state x) answer → IsKept new
    collect_kept answer may room d = kept_event (event.Collect i) may room (collect_step answer d)

    -- a piece that is handled
    pub handle_step : (place : ℕ) → is_enabled (event.Handle i place) (world_seen state s) ≡ true → state x ≡ node_after_handle events place (state n) → new ≡ (step (event.Handle i place) old).world
    handle_step place may is =
        of.handle_world state xs events capacity i x below (b.kept.numbered i) place (enabled.may_handle i place old (ap (is_enabled (event.Handle i place)) seen ∙ may)).1
        (to_node (λ m. state x ≡ node_after_handle events place m) is)

    pub handle_done : (place : ℕ) → is_enabled (event.Handle i place) (world_seen state s) ≡ true → events < 2 ^ 62 → state x ≡ node_after_handle events place (state n) → EventIsDone (event.Handle i place) (world_seen state s) new
    handle_done place may room is = subst (λ w. EventIsDone (event.Handle i place) w new) seen (record { room = room; world = handle_step place may is })

    pub handle_kept : (place : ℕ) → is_enabled (event.Handle i place) (world_seen state s) ≡ true → events < 2 ^ 62 → state x ≡ node_after_handle events place (state n) → IsKept new
    handle_kept place may room is = kept_event (event.Handle i place) may room (handle_step place may is)
