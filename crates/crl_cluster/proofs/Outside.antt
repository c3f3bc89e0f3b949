-- No event of a run touches what is past the last node.
use Rattle.std.proofs.Common.{◌≡◌, ℕ, ◌<◌, ◌≤◌, ◌==◌, ◌||◌, ◌&&◌, nat_lt, Bool, true, false, List, [], ◌∷◌, ◌++◌, refl, sym, ap, ◌∙◌, subst, arith, eqb-true, append_assoc, Option, Some, None}
use Rattle.std.proofs.lemmas.Bool.{and_parts, ltb-true, false≢true}
use Rattle.crl_model.specs.declared.event.Event.{Event}
use Rattle.crl_model.specs.declared.event.Event.TheVariants as event
use Rattle.crl_protocol.specs.Parcels.{Piece}
use Rattle.crl_protocol.specs.Places.{Taken, take_out}
use Rattle.crl_protocol.specs.Node.{Node, new_node}
use Rattle.crl_protocol.specs.World.{is_enabled}
use Rattle.crl_deeds.specs.Laws.{goes_to}
use Rattle.crl_sound.proofs.Laws.{pieces_leave}
use Rattle.crl_turns.specs.declared.turned.Shape.{Shape}
use Rattle.crl_turns.specs.Fronts.{Runs}
use Rattle.crl_turns.proofs.Laws.{stands_still}
use Rattle.crl_cluster.specs.Standing.{world_at, MayCome, TouchesNode, node_stays}
use Rattle.crl_cluster.proofs.Worlds.{run_of, count_at}

runs_before : (s : Shape) (before rest front : List Event) → before ++ rest ≡ front → Runs (MayCome s) front → Runs (MayCome s) before
runs_before s before rest front is runs first e after at = runs first e (after ++ rest) (sym (append_assoc first (e ∷ after) rest) ∙ ap (λ l. l ++ rest) at ∙ is)

module _ (s : Shape) (before : List Event) (runs : Runs (MayCome s) before) where
  inside : (j : ℕ) (rest : Bool) → (nat_lt j (world_at s before).count && rest) ≡ true → j < s.parts
  inside j rest may = subst (λ k. j < k) (count_at s before (run_of s before runs)) (ltb-true _ _ (and_parts _ _ may).0)

  goes_inside : (j place i : ℕ) → j < s.parts → (o : Option (Taken Piece)) → take_out place ((world_at s before).nodes j).outbox ≡ o → goes_to i o ≡ true → i < s.parts
  goes_inside j place i few None e hit = absurd (false≢true hit)
  goes_inside j place i few (Some t) e hit =
      subst (λ k. k < s.parts) (eqb-true t.taken.message.addressee i hit) (pieces_leave s.parts s.extra before (run_of s before runs) j place t few e).addressee

  here_or_there : (j i place : ℕ) → j < s.parts → (here : Bool) → (j == i) ≡ here → (here || goes_to i (take_out place ((world_at s before).nodes j).outbox)) ≡ true → i < s.parts
  here_or_there j i place few true is hit = subst (λ k. k < s.parts) (eqb-true j i is) few
  here_or_there j i place few false is hit = goes_inside j place i few (take_out place ((world_at s before).nodes j).outbox) refl hit

  touched_inside : (e : Event) → MayCome s before e → (i : ℕ) → TouchesNode s before e i → i < s.parts
  unfolding is_enabled
  touched_inside (event.Call j c) may i hit = subst (λ k. k < s.parts) (eqb-true j i hit) (inside j _ may)
  touched_inside (event.Collect j) may i hit = subst (λ k. k < s.parts) (eqb-true j i hit) (inside j _ may)
  touched_inside (event.Handle j place) may i hit = subst (λ k. k < s.parts) (eqb-true j i hit) (inside j _ may)
  touched_inside (event.Carry j place) may i hit = here_or_there j i place (inside j _ may) (j == i) refl hit

pub past_nodes : (s : Shape) (front : List Event) → Runs (MayCome s) front → (i : ℕ) → s.parts ≤ i → (world_at s front).nodes i ≡ new_node s.parts s.extra i
past_nodes s front runs i past =
    stands_still (MayCome s) (λ before e. TouchesNode s before e i) (λ log (n : Node). (world_at s log).nodes i ≡ n) (λ log e n is may apart. node_stays s i log e apart ∙ is) [] front
    (new_node s.parts s.extra i) (front, refl) runs
    (λ before e after at le hit. let below = touched_inside s before (runs_before s before (e ∷ after) front at runs) e (runs before e after at) i hit in omega (arith, below, past)) refl
