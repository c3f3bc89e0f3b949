-- What is said of a cluster, of its passes and of the nodes that they hold.
use Rattle.std.specs.Prelude.{◌≡◌, ℕ, ◌<◌, List}
use Rattle.crl_model.specs.declared.event.Event.{Event}
use Rattle.crl_protocol.specs.Node.{Node}
use Rattle.crl_turns.specs.declared.turned.Shape.{Shape}
use Rattle.crl_turns.specs.declared.view.View.{View}
use Rattle.crl_turns.specs.Calls.{HasValue}
use Rattle.crl_turns.specs.Fronts.{Begins}
use Rattle.crl_turns.specs.Passes as turns
use Rattle.crl_turns.specs.Rule.{HoldsTurn}
use Rattle.crl_cluster.specs.declared.cluster.Cluster.{Cluster}
use Rattle.crl_cluster.specs.declared.cluster.Pass.{Pass}
use Rattle.crl_cluster.specs.declared.held.Held.{Held}
use Rattle.crl_cluster.specs.Standing.{world_at, heard_at}

-- what a pass knows and did
abbrev pub view_of : Pass → View
view_of pass = turns.view_of pass.turns

-- A is what the type of a member makes ready for a call, and B for a piece.
module _ {N T A B : Type 0} where
  -- the number of nodes, and for how many names each node's cache has room
  abbrev pub shape_of : Cluster N T A B → Shape
  shape_of cluster = turns.common_shape cluster.turns

  abbrev pub node_count : Cluster N T A B → ℕ
  node_count cluster = (shape_of cluster).parts

  -- the pass is of this cluster
  pub record IsOf (cluster : Cluster N T A B) (pass : Pass) : Type 0 where
    pub turns_are : turns.IsOf cluster.turns pass.turns
    pub shape_is : pass.shape ≡ shape_of cluster

-- The pass has this node, which is the one of its number after the pass's front.
pub record IsHeld {N T : Type 0} (state : N → Node) (s : Shape) (view : View) (held : Held N T) : Type 0 where
  pub node_is : state held.behind.node ≡ (world_at s view.front).nodes held.number
  pub shape_is : held.behind.shape ≡ s
  pub inside : held.number < s.parts
  pub has : HasValue held.number view

-- It is the same node, with the same luggage.
pub record IsSameHeld {N T : Type 0} (old new : Held N T) : Type 0 where
  pub number : new.number ≡ old.number
  pub luggage : new.behind.luggage ≡ old.behind.luggage

-- The front has grown, and no event that came touches one of these nodes.
pub record GrowsPast (these : ℕ → Type 0) (s : Shape) (old new : List Event) : Type 0 where
  pub begins : Begins old new
  pub nodes : (i : ℕ) → these i → (world_at s new).nodes i ≡ (world_at s old).nodes i
  pub heard : (i : ℕ) → these i → heard_at s i new ≡ heard_at s i old

-- the nodes whose turns a pass holds
abbrev pub held_by : View → ℕ → Type 0
held_by view i = HoldsTurn i view
