-- What all nodes of a world recorded.
use Rattle.std.specs.Prelude.{ℕ, zero, suc, ◌+◌, List, [], ◌∷◌}
use Rattle.crl_model.specs.declared.journal.Recorded.{Recorded}
use Rattle.crl_protocol.specs.Node.{Node}
use Rattle.crl_protocol.specs.World.{World}

-- by node
abbrev pub records_from : ℕ → ℕ → (ℕ → Node) → List (List Recorded)
records_from i zero nodes = []
records_from i (suc k) nodes = (nodes i).records ∷ records_from (i + 1) k nodes

abbrev pub records_by_node : World → List (List Recorded)
records_by_node w = records_from 0 w.count w.nodes
