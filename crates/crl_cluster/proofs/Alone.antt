-- A node that is held for one event.
use Rattle.std.proofs.Common.{◌≡◌, ◌≢◌, ℕ, List, ◌++◌, [], refl, sym, ap, ◌∙◌, subst, ne_eqb}
use Rattle.crl_model.specs.declared.event.Event.{Event}
use Rattle.std.specs.Prelude.{MatchResult}
use Rattle.std.specs.declared.result.Result.{Result}
use Rattle.std.specs.declared.result.Result.TheVariants.{Ok, Err}
use Rattle.crl_model.specs.declared.event.Event.TheVariants as event
use Rattle.crl_protocol.specs.Talk.{Heard, hears_of}
use Rattle.crl_protocol.specs.Node.{Node, Answer}
use Rattle.crl_protocol.specs.World.{World, new_world, step}
use Rattle.crl_turns.specs.declared.view.Place.{Place}
use Rattle.crl_turns.specs.declared.view.Place.TheVariants.{Free, Drawn, Empty}
use Rattle.crl_turns.specs.declared.view.Holding.{Holding}
use Rattle.crl_turns.specs.Plays.{with_holding}
use Rattle.crl_turns.specs.Rule.{value_place, place_if}
use Rattle.crl_cluster.specs.declared.held.Held.{Held}
use Rattle.crl_deeds.specs.Laws.{node_of}
use Rattle.crl_deeds.proofs.Laws.{append_nil}
use Rattle.crl_turns.specs.declared.turned.Shape.{Shape}
use Rattle.crl_turns.specs.declared.view.View.{View}
use Rattle.crl_turns.specs.Calls.{HasValue, after_take, after_give_back}
use Rattle.crl_turns.proofs.Laws.{holds_what_it_has}
use Rattle.crl_cluster.specs.declared.faults.StepFault.{StepFault}
use Rattle.crl_cluster.specs.declared.faults.StepFault.TheVariants.{OutOfMemory, Moved, Spent}
use Rattle.crl_cluster.specs.declared.faults.TryFault.{TryFault}
use Rattle.crl_cluster.specs.declared.faults.TryFault.TheVariants.{Busy, Nothing, Step}
use Rattle.crl_cluster.specs.Standing.{world_at, heard_at, hears_then}
use Rattle.crl_cluster.specs.Clusters.{IsHeld, GrowsPast, held_by}
use Rattle.crl_cluster.specs.Acting.{Comes, IsUndone}
use Rattle.crl_cluster.specs.Trying.{IsUntried}
use Rattle.crl_cluster.proofs.Nodes.{heard_then}

-- What the node heard is the same, where its event is none that it hears, and where the event isn't done.
pub heard_silent : (s : Shape) (e : Event) (old new : View) → Comes s e old new → HasValue (node_of e) old → ((answer : Answer) → hears_of (node_of e) e answer ≡ []) → heard_at s (node_of e) new.front ≡ heard_at s (node_of e) old.front
heard_silent s e old new came has silent =
    heard_then s e old new came (step e (world_at s came.before)).answer has refl
    ∙ ap (λ hs. heard_at s (node_of e) old.front ++ hs) (silent _) ∙ append_nil (heard_at s (node_of e) old.front)

pub heard_undone : (s : Shape) (i : ℕ) (old new : View) (why : StepFault) → HasValue i old → IsUndone s old why new → heard_at s i new.front ≡ heard_at s i old.front
heard_undone s i old new OutOfMemory has is = ap (λ (v : View). heard_at s i v.front) is
heard_undone s i old new (Moved saw found) has is = is.grows.heard i (holds_what_it_has i old has)
heard_undone s i old new Spent has is = is.grows.heard i (holds_what_it_has i old has)

pub heard_untried : (s : Shape) (i : ℕ) (HasNothing : World → Type 0) (old new : View) (why : TryFault) → HasValue i old → IsUntried s HasNothing old why new → heard_at s i new.front ≡ heard_at s i old.front
heard_untried s i HasNothing old new (Busy node) has is = absurd is
heard_untried s i HasNothing old new Nothing has is = ap (λ (v : View). heard_at s i v.front) is.0
heard_untried s i HasNothing old new (Step fault) has is = heard_undone s i old new fault has is

pub handle_heard : (s : Shape) (i place : ℕ) (HasNothing : World → Type 0) (old new : View) (r : Result (Unit {0}) TryFault) → HasValue i old
    → MatchResult r (λ _. Comes s (event.Handle i place) old new) (λ why. IsUntried s HasNothing old why new) → heard_at s i new.front ≡ heard_at s i old.front
handle_heard s i place HasNothing old new (Ok done) has came = heard_silent s (event.Handle i place) old new came has (λ answer. refl)
handle_heard s i place HasNothing old new (Err why) has is = heard_untried s i HasNothing old new why has is

-- luggage that goes with its node still stands, where the node has heard nothing
pub luggage_on : {T : Type 0} (stands : ℕ → List Heard → T → Type 0) (s : Shape) (i j : ℕ) (old new : List Event) (x y : T) → j ≡ i → y ≡ x → heard_at s i new ≡ heard_at s i old → stands i (heard_at s i old) x → stands j (heard_at s j new) y
luggage_on stands s i j old new x y number same heard is =
    subst (λ k. stands k (heard_at s k new) y) (sym number) (subst (λ hs. stands i hs y) (sym heard) (subst (λ t. stands i (heard_at s i old) t) (sym same) is))

-- A piece that is carried is heard by nobody.
pub carry_heard : (s : Shape) (i j place : ℕ) (old new : View) → Comes s (event.Carry i place) old new → HasValue j old → heard_at s j new.front ≡ heard_at s j old.front
carry_heard s i j place old new came has =
    ap (heard_at s j) came.front ∙ hears_then j (new_world s.parts s.extra) came.before (event.Carry i place) ∙ append_nil (heard_at s j came.before) ∙ came.grows.heard j (holds_what_it_has j old has)

pub carry_heard_by : (s : Shape) (i j place : ℕ) (old new : View) (r : Result (Unit {0}) StepFault) → HasValue j old
    → MatchResult r (λ _. Comes s (event.Carry i place) old new) (λ why. IsUndone s old why new) → heard_at s j new.front ≡ heard_at s j old.front
carry_heard_by s i j place old new (Ok done) has came = carry_heard s i j place old new came has
carry_heard_by s i j place old new (Err why) has is = heard_undone s j old new why has is

-- A node that is held stays so while the pass takes another, or gives another back.
elsewhere : (i j : ℕ) (p : Place) (hs : List Holding) → i ≢ j → value_place i (with_holding j p hs) ≡ value_place i hs
elsewhere i j p hs apart = ap (λ b. place_if b p (value_place i hs)) (ne_eqb i j apart)

pub has_beside_take : (i j : ℕ) (old new : View) → i ≢ j → new ≡ after_take j new.front old → HasValue i old → HasValue i new
has_beside_take i j old new apart is has =
    ap (λ (v : View). value_place i v.holds) is ∙ elsewhere i j Empty (with_holding j Drawn old.holds) apart ∙ elsewhere i j Drawn old.holds apart ∙ has

pub has_beside_give : (i j : ℕ) (old new : View) → i ≢ j → new ≡ after_give_back j old → HasValue i old → HasValue i new
has_beside_give i j old new apart is has =
    ap (λ (v : View). value_place i v.holds) is ∙ elsewhere i j Free (with_holding j Drawn old.holds) apart ∙ elsewhere i j Drawn old.holds apart ∙ has

pub held_beside_take : {N T : Type 0} (state : N → Node) (s : Shape) (j : ℕ) (old new : View) (held : Held N T) → held.number ≢ j → GrowsPast (held_by old) s old.front new.front → new ≡ after_take j new.front old
    → IsHeld state s old held → IsHeld state s new held
held_beside_take state s j old new held apart grows is at = record {
  node_is = at.node_is ∙ sym (grows.nodes held.number (holds_what_it_has held.number old at.has));
  shape_is = at.shape_is;
  inside = at.inside;
  has = has_beside_take held.number j old new apart is at.has;
}

pub held_beside_give : {N T : Type 0} (state : N → Node) (s : Shape) (j : ℕ) (old new : View) (held : Held N T) → held.number ≢ j → new ≡ after_give_back j old → IsHeld state s old held → IsHeld state s new held
held_beside_give state s j old new held apart is at = record {
  node_is = at.node_is ∙ ap (λ (v : View). (world_at s v.front).nodes held.number) (sym is);
  shape_is = at.shape_is;
  inside = at.inside;
  has = has_beside_give held.number j old new apart is at.has;
}
