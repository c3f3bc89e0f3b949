-- Callers that are of one cluster.
use Rattle.std.specs.Prelude.{◌≡◌, ℕ, List, All}
use Rattle.crl_cluster.specs.declared.cluster.Cluster.{Cluster}
use Rattle.crl_cluster.specs.Clusters.{node_count}
use Rattle.crl_calls.specs.declared.caller.Caller.{Caller}
use Rattle.crl_calls.specs.Callers.{IsCallerOf}

abbrev pub AreCallersOf : {N T A B : Type 0} → Cluster N T A B → List Caller → Type 0
AreCallersOf cluster callers = All (λ who. IsCallerOf cluster who) callers

-- it is of a cluster of so many nodes
abbrev pub HasNodes : {N T A B : Type 0} → Cluster N T A B → ℕ → Type 0
HasNodes cluster count = node_count cluster ≡ count
