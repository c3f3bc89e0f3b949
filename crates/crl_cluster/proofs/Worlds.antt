-- The world after a front, which is a run.
use Rattle.std.proofs.Common.{◌≡◌, ℕ, zero, suc, ◌+◌, ◌<◌, ◌≤◌, ◌^◌, ◌==◌, ◌&&◌, ◌||◌, nat_lt, true, List, [], ◌∷◌, ◌++◌, length, refl, ap, ap₂, ◌∙◌, arith, Option, Some, None}
use Rattle.std.proofs.lemmas.Bool.{and_parts, ltb-true}
use Rattle.crl_model.specs.declared.event.Event.{Event}
use Rattle.crl_model.specs.declared.event.Event.TheVariants as event
use Rattle.crl_protocol.specs.Parcels.{Piece}
use Rattle.crl_protocol.specs.Places.{Taken, take_out, behind}
use Rattle.crl_protocol.specs.Node.{Node}
use Rattle.crl_protocol.specs.Verdict.{verdict}
use Rattle.crl_protocol.specs.World.{World, new_world, world_after, step, is_enabled, is_free, is_ready, is_call, handles_at, carries, IsRunFrom}
use Rattle.crl_deeds.specs.Laws.{touches, node_of, goes_to}
use Rattle.crl_deeds.proofs.Laws.{turn_of, turn_count, taken_there, run_events, run_count}
use Rattle.crl_safety.specs.Safety.{IsSafe}
use Rattle.crl_sound.proofs.Laws.{numbers_known, nodes_safe}
use Rattle.crl_turns.specs.declared.turned.Shape.{Shape}
use Rattle.crl_turns.specs.Fronts.{Runs}
use Rattle.crl_cluster.specs.Standing.{world_at, MayCome}

runs_from : (w : World) (es : List Event) → ((before : List Event) (e : Event) (after : List Event) → before ++ e ∷ after ≡ es → is_enabled e (world_after w before) ≡ true) → IsRunFrom w es
runs_from w [] runs = tt
runs_from w (e ∷ es) runs = (runs [] e es refl, runs_from (step e w).world es (λ before x after is. runs (e ∷ before) x after (λ k. e ∷ is k)))

pub run_of : (s : Shape) (front : List Event) → Runs (MayCome s) front → IsRunFrom (new_world s.parts s.extra) front
run_of s front runs = runs_from (new_world s.parts s.extra) front runs

module _ (s : Shape) (front : List Event) (run : IsRunFrom (new_world s.parts s.extra) front) where
  pub count_at : (world_at s front).count ≡ s.parts
  count_at = run_count (new_world s.parts s.extra) front run

  pub events_at : (world_at s front).events ≡ length front
  events_at = let all = run_events (new_world s.parts s.extra) front run in omega (arith, all)

  pub me_at : (i : ℕ) → ((world_at s front).nodes i).me ≡ i
  me_at i = (numbers_known s.parts s.extra front run i).0

  pub safe_at : length front ≤ 2 ^ 62 → (i : ℕ) → i < s.parts → IsSafe ((world_at s front).nodes i)
  safe_at limit i few = nodes_safe s.parts s.extra front (record { enabled = run; limit = limit }) i few

-- An event's nodes, and whether it may come, are seen at its node.
pub touches_as : (e : Event) (v w : World) (m : ℕ) → v.nodes (node_of e) ≡ w.nodes (node_of e) → touches e v m ≡ touches e w m
touches_as (event.Call i c) v w m same = refl
touches_as (event.Collect i) v w m same = refl
touches_as (event.Handle i place) v w m same = refl
touches_as (event.Carry i place) v w m same = ap (λ (n : Node). (i == m) || goes_to m (take_out place n.outbox)) same

pub enabled_as : (e : Event) (v w : World) → v.count ≡ w.count → v.nodes (node_of e) ≡ w.nodes (node_of e) → is_enabled e v ≡ is_enabled e w
unfolding is_enabled
enabled_as (event.Call i c) v w count same = ap₂ (λ (k : ℕ) (n : Node). nat_lt i k && (is_free n.activity && is_call n c (verdict n c))) count same
enabled_as (event.Collect i) v w count same = ap₂ (λ (k : ℕ) (n : Node). nat_lt i k && is_ready n.activity) count same
enabled_as (event.Handle i place) v w count same = ap₂ (λ (k : ℕ) (n : Node). nat_lt i k && nat_lt place (length n.inbox)) count same
enabled_as (event.Carry i place) v w count same = ap₂ (λ (k : ℕ) (n : Node). nat_lt i k && nat_lt place (length n.outbox)) count same
