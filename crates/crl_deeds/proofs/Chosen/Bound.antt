-- A run has at most an event for each turn.
use Rattle.std.proofs.Common.{ℕ, zero, suc, ◌+◌, ◌≤◌, Bool, true, false, if◌then◌else◌, List, [], ◌∷◌, length, arith, length-append, slice_index_or, ◌%◌}
use Rattle.crl_model.specs.declared.call.Call.{Call}
use Rattle.crl_model.specs.declared.choice.Choice.{Choice}
use Rattle.crl_model.specs.declared.choice.Choice.TheVariants as choice
use Rattle.crl_model.specs.declared.event.Event.{Event}
use Rattle.crl_model.specs.declared.event.Event.TheVariants as event
use Rattle.crl_model.specs.declared.statement.Statement.{Statement}
use Rattle.crl_protocol.specs.Verdict.{verdict}
use Rattle.crl_protocol.specs.Chosen.{Running, choices, goes_on, with_actor, after_change, is_change, is_allowed, call_of, makes_call, takes_statement, takes_choice, takes_choice_at, turn, turns_from}

abbrev AtMostOneMore : Running → Running → Type 0
AtMostOneMore r next = length next.events ≤ length r.events + 1

goes_one : (i : ℕ) (e : Event) (r : Running) → AtMostOneMore r (goes_on i e r)
goes_one i e r = rw (length-append r.events (e ∷ [])) (omega arith)

if_one : (b : Bool) (r x y : Running) → AtMostOneMore r x → AtMostOneMore r y → AtMostOneMore r (if b then x else y)
if_one true r x y h k = h
if_one false r x y h k = k

call_one : (i : ℕ) (s : Statement) (c : Call) (r : Running) → AtMostOneMore r (makes_call i s c r)
call_one i s c r =
    let inside : AtMostOneMore r (with_actor i (after_change s (r.actors i)) r) = omega arith in
    let goes = goes_one i (event.Call i c) r in
    if_one (is_change s) r _ _ (if_one (is_allowed (verdict (r.world.nodes i) c)) r _ _ inside goes) goes

states_one : (i : ℕ) (left : List Statement) (r : Running) → AtMostOneMore r (takes_statement i left r)
states_one i [] r = omega arith
states_one i (s ∷ left) r =
    call_one i s (call_of (r.world.nodes i) (r.actors i) s) (with_actor i (record (r.actors i) { left = left }) r)

takes_one : (c : Choice) (r : Running) → AtMostOneMore r (takes_choice c r)
unfolding takes_choice
takes_one (choice.Statement i) r = states_one i (r.actors i).left r
takes_one (choice.Collect i) r = goes_one i (event.Collect i) r
takes_one (choice.Handle i place) r = goes_one i (event.Handle i place) r
takes_one (choice.Carry i place) r = goes_one i (event.Carry i place) r

at_one : (word : ℕ) (cs : List Choice) (r : Running) → AtMostOneMore r (takes_choice_at word cs r)
at_one word [] r = omega arith
at_one word (c ∷ cs) r = takes_one (slice_index_or (c ∷ cs) (word % length (c ∷ cs)) c) r

pub turns_bounded : (words : ℕ → ℕ) (p k : ℕ) (r : Running) → length (turns_from words p k r).events ≤ length r.events + k
turns_bounded words p zero r = omega arith
turns_bounded words p (suc k) r =
    let rest = turns_bounded words (p + 1) k (turn (words p) r) in
    let one : length (turn (words p) r).events ≤ length r.events + 1 = at_one (words p) (choices r) r in
    omega arith
