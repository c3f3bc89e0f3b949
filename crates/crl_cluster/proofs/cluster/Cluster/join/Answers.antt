use Rattle.crl_cluster.proofs.Growing.{past}
use Rattle.crl_cluster.proofs.cluster.Cluster.join.Goals as goal

pub returns-clause-told : goal.returns-clause-told
returns-clause-told g c =
    let joins = c.join.ensures.told in
    record { front = joins.front; grows = past _ _ _ _ joins.grows.begins joins.grows.runs joins.grows.spares; begins = joins.begins; view = joins.view }
