-- How many events of a list are of a node.
use Rattle.std.specs.Prelude.{◌≡◌, ℕ, ◌+◌, List, [], ◌∷◌, ◌++◌, Bool, true, false, ◌==◌, refl}
use Rattle.std.proofs.Common.{ap, sym, ◌∙◌}
use Rattle.crl_model.specs.declared.event.Event.{Event}
use Rattle.crl_model.specs.declared.event.Event.TheVariants.{Call, Collect, Handle, Carry}

abbrev pub node_of : Event → ℕ
node_of (Call node call) = node
node_of (Collect node) = node
node_of (Handle node place) = node
node_of (Carry node place) = node

abbrev pub plus_one_if : Bool → ℕ → ℕ
plus_one_if true count = count + 1
plus_one_if false count = count

abbrev pub events_of : ℕ → List Event → ℕ
events_of node [] = 0
events_of node (event ∷ events) = plus_one_if (node_of event == node) (events_of node events)

none_of : (node : ℕ) (event : Event) (here : Bool) → (node_of event == node) ≡ here → ((node_of event == node) ≡ true → ⊥) → plus_one_if here 0 ≡ 0
none_of node event true is apart = absurd (apart is)
none_of node event false is apart = refl

no_more : (node : ℕ) (front : List Event) (event : Event) → ((node_of event == node) ≡ true → ⊥) → events_of node (front ++ event ∷ []) ≡ events_of node front
no_more node [] event apart = none_of node event (node_of event == node) refl apart
no_more node (first ∷ front) event apart = ap (plus_one_if (node_of first == node)) (no_more node front event apart)

-- an event of another node leaves the number
pub count_stays : (node : ℕ) (front : List Event) (event : Event) (count : ℕ) → count ≡ events_of node front → ((node_of event == node) ≡ true → ⊥) → count ≡ events_of node (front ++ event ∷ [])
count_stays node front event count is apart = is ∙ sym (no_more node front event apart)
