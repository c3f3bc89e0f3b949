-- What a history says of a node: its state after the history, and what it heard. And that an event which doesn't touch
-- the node leaves both.
use Rattle.std.specs.Prelude.{◌≡◌, ℕ, ◌==◌, ◌||◌, Bool, true, false, List, [], ◌∷◌, ◌++◌, refl, if◌then◌else◌}
use Rattle.std.proofs.Common.{ap, sym, ◌∙◌, subst, append_assoc}
use Rattle.std.proofs.lemmas.Bool.{cond-false, or_parts}
use Rattle.std.specs.declared.option.Option.{Option}
use Rattle.std.specs.declared.option.Option.TheVariants.{None, Some}
use Rattle.crl_model.specs.Names.{at_node}
use Rattle.crl_model.specs.declared.event.Event.{Event}
use Rattle.crl_model.specs.declared.event.Event.TheVariants as event
use Rattle.crl_protocol.specs.Parcels.{Piece}
use Rattle.crl_protocol.specs.Places.{Taken, take_out}
use Rattle.crl_protocol.specs.Node.{Node, Answer}
use Rattle.crl_protocol.specs.World.{World, new_world, world_of, world_after, step, is_enabled, handles_at, carries}
use Rattle.crl_protocol.specs.Talk.{Heard, Called, Collected, hears, hears_of}
use Rattle.crl_deeds.specs.Laws.{touches, goes_to}
use Rattle.crl_deeds.proofs.Laws.{append_nil, world_grows}
use Rattle.crl_turns.specs.declared.turned.Shape.{Shape}

-- The world after a history. The shape has the number of nodes, and for how many names each node's cache has room.
abbrev pub world_at : Shape → List Event → World
world_at s front = world_of s.parts s.extra front

-- what a node heard in a history
abbrev pub heard_at : Shape → ℕ → List Event → List Heard
heard_at s i front = hears i (new_world s.parts s.extra) front

abbrev pub MayCome : Shape → List Event → Event → Type 0
MayCome s front e = is_enabled e (world_at s front) ≡ true

abbrev pub TouchesNode : Shape → List Event → Event → ℕ → Type 0
TouchesNode s front e i = touches e (world_at s front) i ≡ true

-- A node and its luggage stand for a node of the world: it has the state, and the luggage stands for what it heard.
pub record StandsAt {N T : Type 0} (state : N → Node) (stands : ℕ → List Heard → T → Type 0) (s : Shape) (i : ℕ) (front : List Event) (node : N) (luggage : T) : Type 0 where
  pub node_is : state node ≡ (world_at s front).nodes i
  pub luggage_stands : stands i (heard_at s i front) luggage

is_false : (b : Bool) → (b ≡ true → ⊥) → b ≡ false
is_false true out = absurd (out refl)
is_false false out = refl

elsewhere : {A : Type 0} (f : ℕ → A) (n m : ℕ) (v : A) → (n == m) ≡ false → at_node f n v m ≡ f m
elsewhere f n m v h = cond-false (n == m) v (f m) h

handled_elsewhere : (i : ℕ) (e : Event) (t : Option (Taken Piece)) (w : World) (m : ℕ) → (i == m) ≡ false → (handles_at i e t w).world.nodes m ≡ w.nodes m
handled_elsewhere i e None w m h = refl
handled_elsewhere i e (Some t) w m h = elsewhere w.nodes i m _ h

carried_elsewhere : (i : ℕ) (e : Event) (t : Option (Taken Piece)) (w : World) (m : ℕ) → ((i == m) || goes_to m t) ≡ false → (carries i e t w).world.nodes m ≡ w.nodes m
carried_elsewhere i e None w m h = refl
carried_elsewhere i e (Some t) w m h =
    let parts = or_parts (i == m) (t.taken.message.addressee == m) h in
    elsewhere (at_node w.nodes i _) t.taken.message.addressee m _ parts.1 ∙ elsewhere w.nodes i m _ parts.0

-- An event changes only the nodes that it touches: so it stands in crl_deeds, where no law of a trait can cite it.
untouched : (e : Event) (w : World) (m : ℕ) → touches e w m ≡ false → (step e w).world.nodes m ≡ w.nodes m
unfolding step
untouched (event.Call i c) w m h = elsewhere w.nodes i m _ h
untouched (event.Collect i) w m h = elsewhere w.nodes i m _ h
untouched (event.Handle i place) w m h = handled_elsewhere i (event.Handle i place) (take_out place (w.nodes i).inbox) w m h
untouched (event.Carry i place) w m h = carried_elsewhere i (event.Carry i place) (take_out place (w.nodes i).outbox) w m h

pub hears_then : (i : ℕ) (w : World) (front : List Event) (e : Event) → hears i w (front ++ e ∷ []) ≡ hears i w front ++ hears_of i e (step e (world_after w front)).answer
hears_then i w [] e = append_nil (hears_of i e (step e w).answer)
hears_then i w (x ∷ front) e = ap (λ hs. hears_of i x (step x w).answer ++ hs) (hears_then i (step x w).world front e) ∙ sym (append_assoc (hears_of i x (step x w).answer) _ _)

pub unheard : (e : Event) (w : World) (i : ℕ) (answer : Answer) → touches e w i ≡ false → hears_of i e answer ≡ []
unheard (event.Call j c) w i answer out = ap (λ b. if b then Called c answer ∷ [] else []) out
unheard (event.Collect j) w i answer out = ap (λ b. if b then Collected answer ∷ [] else []) out
unheard (event.Handle j place) w i answer out = refl
unheard (event.Carry j place) w i answer out = refl

pub node_stays : (s : Shape) (i : ℕ) (front : List Event) (e : Event) → (TouchesNode s front e i → ⊥) → (world_at s (front ++ e ∷ [])).nodes i ≡ (world_at s front).nodes i
node_stays s i front e apart = ap (λ (w : World). w.nodes i) (world_grows (new_world s.parts s.extra) front e) ∙ untouched e (world_at s front) i (is_false _ apart)

pub heard_stays : (s : Shape) (i : ℕ) (front : List Event) (e : Event) → (TouchesNode s front e i → ⊥) → heard_at s i (front ++ e ∷ []) ≡ heard_at s i front
heard_stays s i front e apart =
    hears_then i (new_world s.parts s.extra) front e
    ∙ ap (λ hs. heard_at s i front ++ hs) (unheard e (world_at s front) i (step e (world_at s front)).answer (is_false _ apart)) ∙ append_nil (heard_at s i front)

pub stands_on : {N T : Type 0} (state : N → Node) (stands : ℕ → List Heard → T → Type 0) (s : Shape) (i : ℕ) (front : List Event) (e : Event) (node : N) (luggage : T)
    → StandsAt state stands s i front node luggage → (TouchesNode s front e i → ⊥) → StandsAt state stands s i (front ++ e ∷ []) node luggage
stands_on state stands s i front e node luggage is apart = record {
  node_is = is.node_is ∙ sym (node_stays s i front e apart);
  luggage_stands = subst (λ hs. stands i hs luggage) (sym (heard_stays s i front e apart)) is.luggage_stands;
}
