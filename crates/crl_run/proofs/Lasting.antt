-- What a script and an order choose, turn by turn.
use Rattle.std.proofs.Common.{◌≡◌, ◌∙◌, sym, ap, refl, ◌+◌, ◌-◌, ◌≤◌, Bool, true, false, leb, ℕ, zero, suc, List, [], ◌∷◌, ◌++◌, length, subst, arith}
use Rattle.std.proofs.lemmas.Bool.{leb-true, leb-false}
use Rattle.crl_model.specs.declared.event.Event.{Event}
use Rattle.crl_model.specs.declared.event.Event.TheVariants as event
use Rattle.crl_model.specs.declared.statement.Statement.{Statement}
use Rattle.crl_protocol.specs.World.{World, new_world, step, is_enabled, world_after, IsRunFrom}
use Rattle.crl_protocol.specs.Chosen.{Running, running, choices, turn, turns_from, goes_on}
use Rattle.crl_deeds.specs.Laws.{AreStatements, chosen, Follows, ended, changes, calls, happens, next_call, past_statement}
use Rattle.crl_deeds.proofs.Laws.{sound_start, follow_runs, follow_turns, follow_world}
use Rattle.crl_stuck.specs.Ends.{statements_in, most_turns, RunEnds}
use Rattle.crl_stuck.proofs.Laws.{run_ends, rests}
use Rattle.crl_run.specs.Staging.{IsOnItsWay, CallsMayCome, IsChosenOn}
use Rattle.crl_run.proofs.Events.{chosen_few}

-- Turns one after another.
turns_more : (words : ℕ → ℕ) (p a b : ℕ) (r : Running) → turns_from words p (a + b) r ≡ turns_from words (p + a) b (turns_from words p a r)
turns_more words p zero b r =
    let same : zero + b ≡ b = omega arith in
    let from : p ≡ p + zero = omega arith in
    ap (λ k. turns_from words p k r) same ∙ ap (λ k. turns_from words k b r) from
turns_more words p (suc a) b r =
    let same : suc a + b ≡ suc (a + b) = omega arith in
    let from : (p + 1) + a ≡ p + suc a = omega arith in
    ap (λ k. turns_from words p k r) same ∙ turns_more words (p + 1) a b (turn (words p) r) ∙ ap (λ k. turns_from words k b (turns_from words (p + 1) a (turn (words p) r))) from

-- What follows, one after another.
follows_more : {a b c : Running} {es fs : List Event} → Follows a es b → Follows b fs c → Follows a (es ++ fs) c
follows_more ended g = g
follows_more (changes i s left few next inside f) g = changes i s left few next inside (follows_more f g)
follows_more (calls i s left few next out f) g = calls i s left few next out (follows_more f g)
follows_more (happens i e own free enabled f) g = happens i e own free enabled (follows_more f g)

run_last : (w : World) (es : List Event) (e : Event) → IsRunFrom w (es ++ e ∷ []) → is_enabled e (world_after w es) ≡ true
run_last w [] e h = h.0
run_last w (x ∷ es) e h = run_last (step x w).world es e h.1

module _ (count capacity : ℕ) (blocks : List (List Statement)) (words : ℕ → ℕ) (k : ℕ) (are : AreStatements blocks) where
  abbrev now : Running
  now = chosen count capacity blocks words k

  follows : Follows (running count capacity blocks) now.events now
  follows = follow_turns count capacity blocks words k

  way_on : IsOnItsWay count capacity now
  way_on = record { run = follow_runs follows (sound_start count capacity blocks are); world = follow_world follows }

  calls_come : CallsMayCome count capacity blocks now
  calls_come i s left few free next out =
      let more : Follows (running count capacity blocks) (now.events ++ event.Call i (next_call now i s) ∷ []) (goes_on i (event.Call i (next_call now i s)) (past_statement now i left)) = follows_more follows (calls i s left few (next, free) out ended) in
      subst (λ (w : World). is_enabled (event.Call i (next_call now i s)) w ≡ true) (sym way_on.world)
      (run_last (new_world count capacity) now.events (event.Call i (next_call now i s)) (follow_runs more (sound_start count capacity blocks are)))

  next_on : chosen count capacity blocks words (k + 1) ≡ turn (words (k + 1)) now
  next_on =
      let from : 1 + k ≡ k + 1 = omega arith in
      turns_more words 1 k 1 (running count capacity blocks) ∙ ap (λ p. turn (words p) now) from

  module _ (ends : RunEnds count capacity blocks words) where
    -- after the last turn nothing changes
    stays : ends.chosen.turns ≤ k → (now ≡ ends.end) × (choices now ≡ [])
    stays over =
        let t = ends.chosen.turns in
        let split : k ≡ t + (k - t) = omega arith in
        let done : choices (chosen count capacity blocks words t) ≡ [] = subst (λ r. choices r ≡ []) ends.chosen.reached ends.chosen.finished in
        let same : now ≡ chosen count capacity blocks words t = ap (λ n. chosen count capacity blocks words n) split ∙ turns_more words 1 t (k - t) (running count capacity blocks) ∙ rests words (1 + t) (k - t) (chosen count capacity blocks words t) done in
        (same ∙ sym ends.chosen.reached, ap choices same ∙ done)

    few_by : (b : Bool) → leb ends.chosen.turns k ≡ b → length now.events ≤ ends.chosen.turns
    few_by true e = subst (λ r. length r.events ≤ ends.chosen.turns) (sym ends.chosen.reached ∙ sym (stays (leb-true ends.chosen.turns k e)).0) (chosen_few count capacity blocks words ends.chosen.turns)
    few_by false e = let few = chosen_few count capacity blocks words k in let under = leb-false ends.chosen.turns k e in omega arith

  few_on : length now.events ≤ most_turns count (statements_in count blocks)
  few_on =
      let ends = run_ends count capacity blocks words are in
      let here = few_by ends (leb ends.chosen.turns k) refl in
      let few = ends.few in
      omega arith

  last_on : most_turns count (statements_in count blocks) ≤ k → choices now ≡ []
  last_on over =
      let ends = run_ends count capacity blocks words are in
      let few = ends.few in
      (stays ends (omega arith)).1

pub chosen_on : (count capacity : ℕ) (blocks : List (List Statement)) (words : ℕ → ℕ) (k : ℕ) → AreStatements blocks → IsChosenOn count capacity blocks words k
chosen_on count capacity blocks words k are = record {
  way = way_on count capacity blocks words k are;
  calls = calls_come count capacity blocks words k are;
  next = next_on count capacity blocks words k are;
  few = few_on count capacity blocks words k are;
  last = last_on count capacity blocks words k are;
}
