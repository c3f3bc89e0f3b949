-- The callers of a new cluster, in a list.
use Rattle.std.proofs.Common.{ℕ, List, slice_index_or}
use Rattle.std.specs.Prelude.{All}
use Rattle.std.proofs.lemmas.Option.{slice_get-get_or}
use Rattle.crl_cluster.specs.declared.cluster.Cluster.{Cluster}
use Rattle.crl_calls.specs.declared.caller.Caller.{Caller}
use Rattle.crl_calls.specs.Callers.{AreNewCallers, IsCallerOf}

pub all_callers : {N T A B : Type 0} (cluster : Cluster N T A B) (many : ℕ) (list : List Caller) → AreNewCallers cluster many list → All (λ who. IsCallerOf cluster who) list
all_callers cluster many list are k d inside = (are.each k (slice_index_or list k d) (slice_get-get_or list k d inside)).caller
