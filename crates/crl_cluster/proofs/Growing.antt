-- What a pass learns of the nodes that it holds.
use Rattle.std.proofs.Common.{◌≡◌, ℕ, List, length, refl, sym, ap, ◌∙◌, subst, eq-eqb}
use Rattle.crl_model.specs.declared.event.Event.{Event}
use Rattle.crl_protocol.specs.Node.{Node}
use Rattle.crl_protocol.specs.Talk.{Heard}
use Rattle.crl_turns.specs.declared.turned.Shape.{Shape}
use Rattle.crl_turns.specs.declared.view.View.{View}
use Rattle.crl_turns.specs.declared.view.Place.TheVariants.{Empty, Drawn}
use Rattle.crl_turns.specs.Calls.{HasValue, after_take}
use Rattle.crl_turns.specs.Fronts.{Begins, Runs, Spares}
use Rattle.crl_turns.specs.Plays.{with_holding}
use Rattle.crl_turns.specs.Rule.{HoldsTurn, value_place, place_if}
use Rattle.crl_turns.proofs.Laws.{stands_still, begins_trans}
use Rattle.crl_cluster.specs.Standing.{world_at, heard_at, MayCome, TouchesNode, node_stays, heard_stays}
use Rattle.crl_cluster.specs.Clusters.{GrowsPast}

pub past : (these : ℕ → Type 0) (s : Shape) (old new : List Event) → Begins old new → Runs (MayCome s) new
    → ((i : ℕ) → these i → Spares (λ before e. TouchesNode s before e i) (length old) new) → GrowsPast these s old new
past these s old new begins runs spares = record {
  begins = begins;
  nodes = λ i this. stands_still (MayCome s) (λ before e. TouchesNode s before e i) (λ front (n : Node). (world_at s front).nodes i ≡ n)
      (λ front e n is may apart. node_stays s i front e apart ∙ is) old new ((world_at s old).nodes i) begins runs (spares i this) refl;
  heard = λ i this. stands_still (MayCome s) (λ before e. TouchesNode s before e i) (λ front (hs : List Heard). heard_at s i front ≡ hs)
      (λ front e hs is may apart. heard_stays s i front e apart ∙ is) old new (heard_at s i old) begins runs (spares i this) refl;
}

pub past_twice : (these : ℕ → Type 0) (s : Shape) (old mid new : List Event) → GrowsPast these s old mid → GrowsPast these s mid new → GrowsPast these s old new
past_twice these s old mid new first second = record {
  begins = begins_trans old mid new first.begins second.begins;
  nodes = λ i this. second.nodes i this ∙ first.nodes i this;
  heard = λ i this. second.heard i this ∙ first.heard i this;
}

-- a pass that took a node has it
pub has_taken : (i : ℕ) (front : List Event) (old new : View) → new ≡ after_take i front old → HasValue i new
has_taken i front old new is =
    subst (λ (v : View). HasValue i v) (sym is) (ap (λ b. place_if b Empty (value_place i (with_holding i Drawn old.holds))) (eq-eqb i i refl))

-- it holds the same turns as before
pub holds_as : (i : ℕ) (old new : View) → new.holds ≡ old.holds → HoldsTurn i old → HoldsTurn i new
holds_as i old new same holds free = holds (ap (value_place i) (sym same) ∙ free)

pub has_as : (i : ℕ) (old new : View) → new.holds ≡ old.holds → HasValue i old → HasValue i new
has_as i old new same has = ap (value_place i) same ∙ has
