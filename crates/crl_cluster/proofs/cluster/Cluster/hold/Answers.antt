use Rattle.std.proofs.Common.{refl}
use Rattle.crl_cluster.specs.Clusters.{view_of}
use Rattle.crl_cluster.proofs.Growing.{past, has_taken}
use Rattle.crl_cluster.proofs.cluster.Cluster.hold.Goals as goal

pub returns-in-Ok-clause-told : goal.returns-in-Ok-clause-told
returns-in-Ok-clause-told g c =
    let takes = c.in-Ok.ensures.told in
    record {
      number = refl;
      is_held = record { node_is = takes.stands_for.1.node_is; shape_is = takes.stands_for.0; inside = c.requires.node; has = has_taken c.args.node _ (view_of c.args.pass.now) _ takes.view };
      luggage = takes.stands_for.1.luggage_stands;
      grows = past _ _ _ _ takes.grows.begins takes.grows.runs takes.grows.spares;
      view = takes.view;
    }
