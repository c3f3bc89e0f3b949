-- What a worker's pass holds, and what its held node is, after each call.
use Rattle.std.proofs.Common.{◌≡◌, ◌∙◌, sym, ap, refl, subst, ◌==◌, Bool, true, false, ℕ, List}
use Rattle.std.proofs.lemmas.Bool.{eqb-true, eqb-false}
use Rattle.std.specs.Prelude.{MatchResult}
use Rattle.std.specs.declared.result.Result.{Result}
use Rattle.std.specs.declared.result.Result.TheVariants.{Ok, Err}
use Rattle.crl_model.specs.declared.event.Event.{Event}
use Rattle.crl_model.specs.declared.event.Event.TheVariants as event
use Rattle.crl_protocol.specs.Node.{Node, Answer}
use Rattle.crl_turns.specs.declared.turned.Shape.{Shape}
use Rattle.crl_turns.specs.declared.view.View.{View}
use Rattle.crl_turns.specs.declared.view.Holding.{Holding}
use Rattle.crl_turns.specs.declared.view.Place.TheVariants.{Free, Drawn, Empty}
use Rattle.crl_turns.specs.Rule.{HoldsTurn, value_place, place_if}
use Rattle.crl_turns.specs.Plays.{with_holding}
use Rattle.crl_turns.specs.Calls.{after_take, after_give_back}
use Rattle.crl_turns.specs.Closing.{HoldsNone}
use Rattle.crl_turns.proofs.Laws.{holds_what_it_has}
use Rattle.crl_cluster.specs.declared.held.Held.{Held}
use Rattle.crl_cluster.specs.declared.faults.StepFault.{StepFault}
use Rattle.crl_cluster.specs.declared.faults.StepFault.TheVariants.{OutOfMemory, Moved, Spent}
use Rattle.crl_cluster.specs.declared.faults.TryFault.{TryFault}
use Rattle.crl_cluster.specs.declared.faults.TryFault.TheVariants.{Busy, Nothing, Step}
use Rattle.crl_cluster.specs.Standing.{world_at, heard_at}
use Rattle.crl_cluster.specs.Clusters.{IsHeld, IsSameHeld, GrowsPast, held_by}
use Rattle.crl_cluster.specs.Acting.{Comes, IsDone, IsUndone}
use Rattle.crl_cluster.specs.Trying.{Alone, IsCarried, IsUncarried}
use Rattle.crl_crew.specs.Driving.{IsStill, IsEventOf}
use Rattle.crl_crew.specs.Working.{HoldsOnly}

module _ {N T : Type 0} (state : N → Node) (s : Shape) (old : View) (held_old : Held N T) where
  pub still_first : IsHeld state s old held_old → IsStill state s old held_old old held_old
  still_first h = record { held_is = h; number = refl; holds = refl; node = refl; heard = refl }

  module _ (mid : View) (held_mid : Held N T) (still : IsStill state s old held_old mid held_mid) where
    turn : HoldsTurn held_mid.number mid
    turn = holds_what_it_has held_mid.number mid still.held_is.has

    -- the node is as it was
    pub state_same : IsHeld state s old held_old → state held_mid.behind.node ≡ state held_old.behind.node
    state_same h =
        still.held_is.node_is ∙ ap (λ i. (world_at s mid.front).nodes i) still.number ∙ still.node ∙ sym h.node_is

    further : (new : View) (held : Held N T) → IsHeld state s new held → held.number ≡ held_mid.number → GrowsPast (held_by mid) s mid.front new.front → new.holds ≡ mid.holds → IsStill state s old held_old new held
    further new held is number grows holds = record {
      held_is = is;
      number = number ∙ still.number;
      holds = holds ∙ still.holds;
      node = subst (λ i. (world_at s new.front).nodes i ≡ (world_at s mid.front).nodes i) still.number (grows.nodes held_mid.number turn) ∙ still.node;
      heard = subst (λ i. heard_at s i new.front ≡ heard_at s i mid.front) still.number (grows.heard held_mid.number turn) ∙ still.heard;
    }

    -- another event came first
    pub still_undone : (why : StepFault) (new : View) (held : Held N T) → IsHeld state s new held × IsSameHeld held_mid held → IsUndone s mid why new → IsStill state s old held_old new held
    still_undone OutOfMemory new held (is, same) u = record {
      held_is = is;
      number = same.number ∙ still.number;
      holds = ap (λ (v : View). v.holds) u ∙ still.holds;
      node = ap (λ (v : View). (world_at s v.front).nodes held_old.number) u ∙ still.node;
      heard = ap (λ (v : View). heard_at s held_old.number v.front) u ∙ still.heard;
    }
    still_undone (Moved saw found) new held (is, same) u = further new held is same.number u.grows (ap (λ (v : View). v.holds) u.view)
    still_undone Spent new held (is, same) u = further new held is same.number u.grows (ap (λ (v : View). v.holds) u.view)

    -- the event came
    pub event_done : (e : Event) (answer : Answer) (new : View) (held : Held N T) → IsHeld state s new held × IsSameHeld held_mid held → IsDone s e mid answer new → IsEventOf state s e old held_old answer new held
    event_done e answer new held (is, same) d = record {
      before = d.comes.before;
      run = d.comes.run;
      enabled = d.comes.enabled;
      node = subst (λ i. (world_at s d.comes.before).nodes i ≡ (world_at s mid.front).nodes i) still.number (d.comes.grows.nodes held_mid.number turn) ∙ still.node;
      heard = subst (λ i. heard_at s i d.comes.before ≡ heard_at s i mid.front) still.number (d.comes.grows.heard held_mid.number turn) ∙ still.heard;
      answer_is = d.answer_is;
      front = d.comes.front;
      held_is = is;
      number = same.number ∙ still.number;
      holds = ap (λ (v : View). v.holds) d.comes.view ∙ still.holds;
    }

-- Which nodes a pass holds.
pub only_as : (i : ℕ) (old new : View) → new.holds ≡ old.holds → HoldsOnly i old → HoldsOnly i new
only_as i old new same only j apart = ap (value_place j) same ∙ only j apart

pub none_as : (old new : View) → new.holds ≡ old.holds → HoldsNone old → HoldsNone new
none_as old new same none j = ap (value_place j) same ∙ none j

pub take_only : (i : ℕ) (old new : View) → new ≡ after_take i new.front old → HoldsNone old → HoldsOnly i new
take_only i old new is none j apart = ap (λ (v : View). value_place j v.holds) is ∙ go (j == i) refl
  where
    go : (b : Bool) → (j == i) ≡ b → place_if b Empty (place_if b Drawn (value_place j old.holds)) ≡ Free
    go true e = absurd (apart (eqb-true j i e))
    go false e = none j

pub give_none : (i : ℕ) (old new : View) → new ≡ after_give_back i old → HoldsOnly i old → HoldsNone new
give_none i old new is only j = ap (λ (v : View). value_place j v.holds) is ∙ go (j == i) refl
  where
    go : (b : Bool) → (j == i) ≡ b → place_if b Free (place_if b Drawn (value_place j old.holds)) ≡ Free
    go true e = refl
    go false e = only j (eqb-false j i e)

-- a node that was taken and given back
there_and_back : (j a : ℕ) (hs : List Holding) → value_place j hs ≡ Free → value_place j (with_holding a Free (with_holding a Drawn (with_holding a Empty (with_holding a Drawn hs)))) ≡ Free
there_and_back j a hs h = go (j == a)
  where
    go : (b : Bool) → place_if b Free (place_if b Drawn (place_if b Empty (place_if b Drawn (value_place j hs)))) ≡ Free
    go true = refl
    go false = h

alone_only : (s : Shape) (a i : ℕ) (old new : View) (Happens : View → View → Type 0) → ((held done : View) → Happens held done → done.holds ≡ held.holds) → Alone s a old new Happens → HoldsOnly i old → HoldsOnly i new
alone_only s a i old new Happens keeps alone only j apart =
    ap (λ (v : View). value_place j v.holds) alone.gives
    ∙ ap (λ hs. value_place j (with_holding a Free (with_holding a Drawn hs))) (keeps alone.held alone.done alone.happens ∙ ap (λ (v : View). v.holds) alone.takes)
    ∙ there_and_back j a old.holds (only j apart)

undone_holds : (s : Shape) (old new : View) (why : StepFault) → IsUndone s old why new → new.holds ≡ old.holds
undone_holds s old new OutOfMemory u = ap (λ (v : View). v.holds) u
undone_holds s old new (Moved saw found) u = ap (λ (v : View). v.holds) u.view
undone_holds s old new Spent u = ap (λ (v : View). v.holds) u.view

uncarried_only : (s : Shape) (i place : ℕ) (old new : View) (why : TryFault) → IsUncarried s i place old why new → HoldsOnly i old → HoldsOnly i new
uncarried_only s i place old new (Busy out) u only = only_as i old new (ap (λ (v : View). v.holds) u.1) only
uncarried_only s i place old new Nothing u only = only_as i old new (ap (λ (v : View). v.holds) u.0) only
uncarried_only s i place old new (Step fault) u only = alone_only s _ i old new (λ held done. IsUndone s held fault done) (λ held done d. undone_holds s held done fault d) u only

-- after a piece was sent, or not
pub sent_only : (s : Shape) (i place : ℕ) (old new : View) (r : Result (Unit {0}) TryFault) → MatchResult r (λ _. IsCarried s i place old new) (λ why. IsUncarried s i place old why new) → HoldsOnly i old → HoldsOnly i new
sent_only s i place old new (Ok done) c only = alone_only s _ i old new (Comes s (event.Carry i place)) (λ held done d. ap (λ (v : View). v.holds) d.view) c only
sent_only s i place old new (Err why) u only = uncarried_only s i place old new why u only

pub undone_only : (s : Shape) (i : ℕ) (old new : View) (why : StepFault) → IsUndone s old why new → HoldsOnly i old → HoldsOnly i new
undone_only s i old new why u only = only_as i old new (undone_holds s old new why u) only

pub comes_only : (s : Shape) (i : ℕ) (e : Event) (old new : View) → Comes s e old new → HoldsOnly i old → HoldsOnly i new
comes_only s i e old new c only = only_as i old new (ap (λ (v : View). v.holds) c.view) only
