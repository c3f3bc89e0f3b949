-- How a number of events grows.
use Rattle.std.proofs.Common.{◌≡◌, ℕ, ◌+◌, ◌≤◌, ◌==◌, Bool, true, false, List, [], ◌∷◌, ◌++◌, length, refl, ap, ◌∙◌, arith, eq-eqb}
use Rattle.crl_model.specs.declared.event.Event.{Event}
use Rattle.crl_turns_tests.specs.Tallies.{node_of, events_of, plus_one_if}

plus_within : (here : Bool) (count limit : ℕ) → count ≤ limit → plus_one_if here count ≤ limit + 1
plus_within true count limit le = omega arith
plus_within false count limit le = omega arith

-- there are no more of a node than there are
pub within : (node : ℕ) (events : List Event) → events_of node events ≤ length events
within node [] = omega arith
within node (event ∷ events) = let less = plus_within (node_of event == node) (events_of node events) (length events) (within node events) in omega (arith, less)

plus_more : (here : Bool) (count : ℕ) → plus_one_if here (count + 1) ≡ plus_one_if here count + 1
plus_more true count = refl
plus_more false count = refl

-- one more of the node
pub one_more : (node : ℕ) (front : List Event) (event : Event) → node_of event ≡ node → events_of node (front ++ event ∷ []) ≡ events_of node front + 1
one_more node [] event is = ap (λ here. plus_one_if here 0) (eq-eqb (node_of event) node is)
one_more node (first ∷ front) event is = ap (plus_one_if (node_of first == node)) (one_more node front event is) ∙ plus_more (node_of first == node) (events_of node front)
