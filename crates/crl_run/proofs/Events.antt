-- A turn has one event at most.
use Rattle.std.proofs.Common.{◌+◌, ◌≤◌, Bool, true, false, if◌then◌else◌, ℕ, List, [], ◌∷◌, length, arith}
use Rattle.std.proofs.lemmas.List.{length-append}
use Rattle.crl_model.specs.declared.choice.Choice.{Choice}
use Rattle.crl_model.specs.declared.choice.Choice.TheVariants as choice
use Rattle.crl_model.specs.declared.call.Call.{Call}
use Rattle.crl_model.specs.declared.event.Event.{Event}
use Rattle.crl_model.specs.declared.event.Event.TheVariants as event
use Rattle.crl_model.specs.declared.statement.Statement.{Statement}
use Rattle.crl_protocol.specs.Verdict.{verdict}
use Rattle.crl_protocol.specs.Chosen.{Running, running, takes_choice, takes_choice_at, takes_statement, makes_call, call_of, goes_on, with_actor, after_change, is_change, is_allowed}
use Rattle.crl_deeds.specs.Laws.{chosen}
use Rattle.crl_deeds.proofs.Laws.{turns_bounded}

one_event : (i : ℕ) (e : Event) (r : Running) → length (goes_on i e r).events ≤ length r.events + 1
one_event i e r = let h = length-append r.events (e ∷ []) in omega arith

either_few : (b : Bool) (x y : Running) (n : ℕ) → length x.events ≤ n → length y.events ≤ n → length (if b then x else y).events ≤ n
either_few true x y n h k = h
either_few false x y n h k = k

statement_few : (i : ℕ) (left : List Statement) (r : Running) → length (takes_statement i left r).events ≤ length r.events + 1
statement_few i [] r = omega arith
statement_few i (s ∷ left) r = makes_few (call_of (r.world.nodes i) (r.actors i) s)
  where
    past : Running
    past = with_actor i (record (r.actors i) { left = left }) r

    makes_few : (c : Call) → length (makes_call i s c past).events ≤ length r.events + 1
    makes_few c =
        let one = one_event i (event.Call i c) past in
        either_few (is_change s) _ _ (length r.events + 1) (either_few (is_allowed (verdict (past.world.nodes i) c)) (with_actor i (after_change s (past.actors i)) past) (goes_on i (event.Call i c) past) (length r.events + 1) (omega arith) one) one

choice_few : (c : Choice) (r : Running) → length (takes_choice c r).events ≤ length r.events + 1
unfolding takes_choice
choice_few (choice.Statement i) r = statement_few i (r.actors i).left r
choice_few (choice.Collect i) r = one_event i (event.Collect i) r
choice_few (choice.Handle i place) r = one_event i (event.Handle i place) r
choice_few (choice.Carry i place) r = one_event i (event.Carry i place) r

turn_few : (word : ℕ) (cs : List Choice) (r : Running) → length (takes_choice_at word cs r).events ≤ length r.events + 1
turn_few word [] r = omega arith
turn_few word (c ∷ cs) r = choice_few _ r

pub chosen_few : (count capacity : ℕ) (blocks : List (List Statement)) (words : ℕ → ℕ) (k : ℕ) → length (chosen count capacity blocks words k).events ≤ k
chosen_few count capacity blocks words k = let h : length (chosen count capacity blocks words k).events ≤ 0 + k = turns_bounded words 1 k (running count capacity blocks) in omega arith
