-- A new cluster.
use Rattle.std.specs.Prelude.{◌≡◌, ℕ, List, [], length, slice_get, Some}
use Rattle.crl_protocol.specs.Node.{Node, new_node}
use Rattle.crl_protocol.specs.Talk.{Heard}
use Rattle.crl_turns.specs.declared.turned.Shape.{Shape}
use Rattle.crl_turns.specs.Plays.{blank_view}
use Rattle.crl_world.specs.Starting.{AreSomeNodes}
use Rattle.crl_cluster.specs.declared.behind.Behind.{Behind}
use Rattle.crl_cluster.specs.declared.cluster.Cluster.{Cluster}
use Rattle.crl_cluster.specs.declared.cluster.Pass.{Pass}
use Rattle.crl_cluster.specs.Clusters.{view_of, shape_of, IsOf}

abbrev pub shape_with : ℕ → ℕ → Shape
shape_with nodes capacity = record { parts = nodes; extra = capacity }

-- the node of this number, to which nothing happened, with luggage for it
pub record IsNew {N T : Type 0} (state : N → Node) (stands : ℕ → List Heard → T → Type 0) (nodes capacity i : ℕ) (behind : Behind N T) : Type 0 where
  pub node : state behind.node ≡ new_node nodes capacity i
  pub luggage : stands i [] behind.luggage
  pub shape : behind.shape ≡ shape_with nodes capacity

-- so many of them, by number
pub record AreNew {N T : Type 0} (state : N → Node) (stands : ℕ → List Heard → T → Type 0) (nodes capacity many : ℕ) (values : List (Behind N T)) : Type 0 where
  pub count : length values ≡ many
  pub each : (i : ℕ) (behind : Behind N T) → slice_get values i ≡ Some behind → IsNew state stands nodes capacity i behind

-- The cluster has so many nodes, and the pass is its first: it knows of no event.
pub record IsStarted {N T A B : Type 0} (nodes capacity : ℕ) (cluster : Cluster N T A B) (pass : Pass) : Type 0 where
  pub some : AreSomeNodes nodes
  pub shape : shape_of cluster ≡ shape_with nodes capacity
  pub here : IsOf cluster pass
  pub view : view_of pass ≡ blank_view
