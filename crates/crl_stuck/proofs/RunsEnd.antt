-- Each script and order choose a run that ends.
use Rattle.std.proofs.Common.{◌≡◌, ℕ, zero, suc, ◌+◌, ◌*◌, ◌≤◌, List, [], length, refl, ap, sym, ◌∙◌, subst, arith}
use Rattle.std.proofs.Math.Logic.{◌⊎◌, inl, inr}
use Rattle.std.proofs.Math.Nat.{mul-le-mul_right}
use Rattle.crl_model.specs.declared.event.Event.{Event}
use Rattle.crl_model.specs.declared.statement.Statement.{Statement}
use Rattle.crl_protocol.specs.Talk.{bound}
use Rattle.crl_protocol.specs.World.{new_world, world_of, messages_sent, IsRunFrom}
use Rattle.crl_protocol.specs.Chosen.{Running, choices, running, takes_choice_at, turn, turns_from, IsChosen}
use Rattle.crl_deeds.specs.Laws.{AreStatements, chosen}
use Rattle.crl_deeds.proofs.Laws.{sound_start, follow_runs, follow_turns, follow_world}
use Rattle.crl_bound.specs.Counters.{count_calls, count_collects}
use Rattle.crl_bound.proofs.Laws.{messages_bounded, events_few}
use Rattle.crl_stuck.specs.Ends.{statements_from, statements_in, most_messages, most_turns, RunEnds, ForEachScript, LastIsStuck}
use Rattle.crl_stuck.proofs.Sizes.{bound_few}
use Rattle.crl_stuck.proofs.Progress.{Took, Stops, runs_on, calls_on}
use Rattle.crl_stuck.proofs.Waiters.{ends_stuck}

pub chosen_run : (count capacity : ℕ) (blocks : List (List Statement)) (words : ℕ → ℕ) (k : ℕ) → AreStatements blocks → IsRunFrom (new_world count capacity) (chosen count capacity blocks words k).events
chosen_run count capacity blocks words k are = follow_runs (follow_turns count capacity blocks words k) (sound_start count capacity blocks are)

pub stuck_chosen : ForEachScript LastIsStuck
stuck_chosen count capacity blocks words are k none =
    ends_stuck count capacity (chosen count capacity blocks words k).events (chosen_run count capacity blocks words k are) (chosen count capacity blocks words k) (follow_world (follow_turns count capacity blocks words k)) none

-- a run's events are few by its calls: those that are no calls are as many answers at most, and two for each message
events_bounded : (count capacity : ℕ) (run : List Event) (calls : ℕ) → IsRunFrom (new_world count capacity) run → count_calls run ≤ calls → length run ≤ count_calls run + calls + 2 * (calls * most_messages count)
events_bounded count capacity run calls r few =
    let kinds = (events_few count capacity run r).kinds in
    let answers = (events_few count capacity run r).collects in
    let sent = messages_bounded count capacity run r in
    let bounded = bound_few (new_world count capacity) [] run r tt in
    let most = mul-le-mul_right (most_messages count) few in
    by_numbers (length run) (count_calls run) (count_collects run) calls (messages_sent (world_of count capacity run)) (bound count capacity run) _ _ kinds answers few sent bounded most
  where
    by_numbers : (events a b calls sent bound x y : ℕ) → events ≤ a + b + 2 * sent → b ≤ a → a ≤ calls → sent ≤ bound → bound ≤ x → x ≤ y → events ≤ a + calls + 2 * y
    by_numbers events a b calls sent bound x y h k l m n o = omega arith

-- where no choice is left nothing changes, so a run has one end
pub rests : (words : ℕ → ℕ) (p k : ℕ) (r : Running) → choices r ≡ [] → turns_from words p k r ≡ r
rests words p zero r e = refl
rests words p (suc k) r e = ap (λ x. turns_from words (p + 1) k x) (ap (λ cs. takes_choice_at (words p) cs r) e) ∙ rests words (p + 1) k r e

one_from : (words : ℕ → ℕ) (p j k : ℕ) (r : Running) → choices (turns_from words p j r) ≡ [] → choices (turns_from words p k r) ≡ [] → turns_from words p j r ≡ turns_from words p k r
one_from words p zero k r e f = sym (rests words p k r e)
one_from words p (suc j) zero r e f = rests words p (suc j) r f
one_from words p (suc j) (suc k) r e f = one_from words (p + 1) j k (turn (words p) r) e f

pub one_end : (count capacity : ℕ) (blocks : List (List Statement)) (words : ℕ → ℕ) (a b : Running) → IsChosen count capacity blocks words a → IsChosen count capacity blocks words b → a ≡ b
one_end count capacity blocks words a b h k =
    h.reached ∙ (one_from words 1 h.turns k.turns (running count capacity blocks) (subst (λ r. choices r ≡ []) h.reached h.finished) (subst (λ r. choices r ≡ []) k.reached k.finished) ∙ sym k.reached)

pub run_ends : (count capacity : ℕ) (blocks : List (List Statement)) (words : ℕ → ℕ) → AreStatements blocks → RunEnds count capacity blocks words
run_ends count capacity blocks words are = go (runs_on count words 1 (suc most) start refl)
  where
    start : Running
    start = running count capacity blocks

    all : ℕ
    all = statements_in count blocks

    most : ℕ
    most = most_turns count all

    too_many : Took count (suc most) start (chosen count capacity blocks words (suc most)) → ⊥
    too_many t =
        let end = chosen count capacity blocks words (suc most) in
        let few = t.calls in
        let events = events_bounded count capacity end.events all (chosen_run count capacity blocks words (suc most) are) (omega arith) in
        by_numbers (length end.events) (count_calls end.events) (statements_from 0 count end.actors) all (all * most_messages count) t.turns events
      where
        by_numbers : (events calls left statements messages : ℕ) → 0 + calls + left + suc (2 * statements + 2 * messages) ≤ events + 0 + statements → events ≤ calls + statements + 2 * messages → ⊥
        by_numbers events calls left statements messages h k = omega arith

    go : (Stops words 1 (suc most) start) ⊎ (Took count (suc most) start (chosen count capacity blocks words (suc most))) → RunEnds count capacity blocks words
    go (inl s) = let f = s.fewer in record {
      end = chosen count capacity blocks words s.turns;
      chosen = record { turns = s.turns; reached = refl; finished = s.none };
      few = omega arith;
      stuck = stuck_chosen count capacity blocks words are s.turns s.none;
    }
    go (inr t) = absurd (too_many t)

-- each statement leads to so many messages at most
pub messages_most : (count capacity : ℕ) (blocks : List (List Statement)) (words : ℕ → ℕ) (k : ℕ) → AreStatements blocks → messages_sent (chosen count capacity blocks words k).world ≤ statements_in count blocks * most_messages count
messages_most count capacity blocks words k are =
    let run = (chosen count capacity blocks words k).events in
    let r = chosen_run count capacity blocks words k are in
    let calls = calls_on count words 1 k (running count capacity blocks) refl in
    let few : count_calls run ≤ statements_in count blocks = omega arith in
    let sent = messages_bounded count capacity run r in
    let bounded = bound_few (new_world count capacity) [] run r tt in
    let most = mul-le-mul_right (most_messages count) few in
    let same = ap messages_sent (follow_world (follow_turns count capacity blocks words k)) in
    by_numbers _ _ _ _ _ same sent bounded most
  where
    by_numbers : (a b c d e : ℕ) → a ≡ b → b ≤ c → c ≤ d → d ≤ e → a ≤ e
    by_numbers a b c d e h k l m = omega arith
