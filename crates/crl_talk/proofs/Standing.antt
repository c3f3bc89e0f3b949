-- What is known of every world of a run for a node, and so: its calls stand once in the account, in order, with their answers.
use Rattle.std.proofs.Common.{◌≡◌, ℕ, ◌≤◌, ◌<◌, true, List, [], ◌∷◌, ◌++◌, length, refl, ap, sym, ◌∙◌, subst, append_assoc, arith}
use Rattle.crl_model.specs.declared.event.Event.{Event}
use Rattle.crl_protocol.specs.World.{World, new_world, step, is_enabled, IsRunFrom, IsRun, world_of, world_after}
use Rattle.crl_deeds.specs.Tokens.{map_token}
use Rattle.crl_deeds.proofs.Laws.{turn_of, turn_count, kept_turn, who_maps_has_one, who_deletes_has_one, boxed_sum, world_grows}
use Rattle.crl_talk.specs.Calls.{CallsStandOnce}
use Rattle.crl_talk.proofs.Heard.{Ground, ground_start, ground_step}
use Rattle.crl_talk.proofs.Pending.{Waits}
use Rattle.crl_talk.proofs.Sides.{Sided, sided_kept, sided_start}
use Rattle.crl_talk.proofs.Events.{Runs}
use Rattle.crl_talk.proofs.Talked.{rests_of}

-- What is known of each world of a run.

run_before : (w : World) (xs ys : List Event) → IsRunFrom w (xs ++ ys) → IsRunFrom w xs
run_before w [] ys r = tt
run_before w (x ∷ xs) ys r = (r.0, run_before (step x w).world xs ys r.1)

run_behind : (w : World) (xs ys : List Event) → IsRunFrom w (xs ++ ys) → IsRunFrom (world_after w xs) ys
run_behind w [] ys r = r
run_behind w (x ∷ xs) ys r = run_behind (step x w).world xs ys r.1

length_before : (xs ys : List Event) → length xs ≤ length (xs ++ ys)
length_before [] ys = omega arith
length_before (x ∷ xs) ys = let h = length_before xs ys in omega arith

shorter : (count capacity : ℕ) (xs ys : List Event) → IsRun count capacity (xs ++ ys) → IsRun count capacity xs
shorter count capacity xs ys r = record { enabled = run_before (new_world count capacity) xs ys r.enabled; limit = (let a = length_before xs ys in let b = r.limit in omega arith) }

waits_of : (n count capacity : ℕ) (run : List Event) → IsRun count capacity run → n < count → Waits n (world_of count capacity run)
waits_of n count capacity run r few = record {
  map = λ q. sym (boxed_sum (map_token n q) (world_of count capacity run)) ∙ who_maps_has_one count capacity run r n q few;
  delete = λ q. who_deletes_has_one count capacity run r n q few;
}

-- those of its worlds, from this one on
known_runs : (n count capacity : ℕ) (before es : List Event) (w : World) → w ≡ world_of count capacity before → IsRun count capacity (before ++ es) → n < count → w.count ≡ count → Ground w → ((i : ℕ) → Sided (w.nodes i)) → Runs n w es
known_runs n count capacity before [] w is r few size ground sided = record {
  few = subst (λ k. n < k) (sym size) few;
  ground = ground;
  waiting = subst (Waits n) (sym is) (waits_of n count capacity before (shorter count capacity before [] r) few);
  sided = sided;
}
known_runs n count capacity before (e ∷ es) w is r few size ground sided = (
  record { few = subst (λ k. n < k) (sym size) few; ground = ground; waiting = subst (Waits n) (sym is) (waits_of n count capacity before (shorter count capacity before (e ∷ es) r) few); sided = sided },
  may,
  known_runs n count capacity (before ++ e ∷ []) es (step e w).world (ap (λ x. (step e x).world) is ∙ sym (world_grows (new_world count capacity) before e))
      (subst (IsRun count capacity) (sym (append_assoc before (e ∷ []) es)) r) few (turn_count w _ (turn_of w e may) ∙ size) (ground_step w e may ground) (kept_turn Sided sided_kept w _ (turn_of w e may) ground.known.fits sided),
)
  where
    may : is_enabled e w ≡ true
    may = subst (λ x. is_enabled e x ≡ true) (sym is) (run_behind (new_world count capacity) before (e ∷ es) r.enabled).0

pub calls_stand : (count capacity : ℕ) (run : List Event) → IsRun count capacity run → (n : ℕ) → n < count → CallsStandOnce n count capacity run
calls_stand count capacity run r n few =
    let known = known_runs n count capacity [] run (new_world count capacity) refl r few refl (ground_start count capacity) (λ i. sided_start i) in
    record { lines = (rests_of n run (new_world count capacity) known).free refl }
