use Rattle.crl_cluster.proofs.Growing.{past}
use Rattle.crl_cluster.proofs.cluster.Cluster.seen.Goals as goal

pub returns-clause-told : goal.returns-clause-told
returns-clause-told g c =
    let looks = c.seen.ensures.told in
    record { counts = looks.counts; grows = past _ _ _ _ looks.grows.begins looks.grows.runs looks.grows.spares; view = looks.view }
