-- The protocol's world of what is seen.
use Rattle.std.specs.Prelude.{◌≡◌, ℕ, zero, suc, ◌+◌, ◌<◌, ◌≤◌, ◌^◌, List, [], ◌∷◌, length, map, slice_index_or}
use Rattle.crl_protocol.specs.Node.{Node, new_node}
use Rattle.crl_protocol.specs.World.{World}
use Rattle.crl_safety.specs.Safety.{IsSafe}
use Rattle.crl_world.specs.Members.{Members}

-- the node at a place of a list; past its end a node to which nothing happened
abbrev pub node_in : ℕ → List Node → ℕ → Node
node_in capacity nodes i = slice_index_or nodes i (new_node (length nodes) capacity i)

-- the node at a place that is known to be there
abbrev pub node_at : ℕ → List Node → Node
node_at i nodes = slice_index_or nodes i (new_node 0 0 0)

abbrev pub world_of_nodes : List Node → ℕ → ℕ → World
world_of_nodes nodes events capacity = record { count = length nodes; nodes = node_in capacity nodes; events = events }

-- by the protocol's node for which each member stands
abbrev pub world_seen : {N : Type 0} → (N → Node) → Members N → World
world_seen state s = world_of_nodes (map state s.nodes) s.events s.capacity

-- What holds of every world that is seen: there are 1 to 64 nodes, each of which knows its number, and at most 2^62 events.
pub record IsKept (w : World) : Type 0 where
  pub some : 0 < w.count
  pub few : w.count ≤ 64
  pub events : w.events ≤ 2 ^ 62
  pub numbered : (i : ℕ) → (w.nodes i).me ≡ i

-- so many nodes to which nothing happened, from this number on
abbrev pub first_nodes : ℕ → ℕ → ℕ → ℕ → List Node
first_nodes count capacity i zero = []
first_nodes count capacity i (suc k) = new_node count capacity i ∷ first_nodes count capacity (i + 1) k

-- each node of the world is safe
pub record NodesAreSafe (w : World) : Type 0 where
  pub safe : (i : ℕ) → i < w.count → IsSafe (w.nodes i)
