use Rattle.std.proofs.Common.{refl}
use Rattle.crl_cluster.specs.Clusters.{view_of, shape_of}
use Rattle.crl_cluster.specs.Trying.{HasNoPiece}
use Rattle.crl_cluster.proofs.Alone.{handle_heard, luggage_on}
use Rattle.crl_cluster.proofs.cluster.Cluster.try_handle.Goals as goal

pub release-requires-clause-luggage : goal.release-requires-clause-luggage
release-requires-clause-luggage g c =
    let s = shape_of c.args.self.now in
    let told = c.in-Ok.ensures.told in
    let same = c.handle_if-answer.ensures.held.1 in
    let held = view_of c.hold.new.pass in
    let done = view_of c.handle_if-answer.new.pass in
    let heard = handle_heard s c.in-Ok.held.number c.args.place (HasNoPiece c.in-Ok.held.number c.args.place) held done c.handle_if-answer.result told.is_held.has c.handle_if-answer.ensures.told in
    luggage_on g.T.Luggage.stands s c.in-Ok.held.number _ held.front done.front _ _ same.number same.luggage heard (luggage_on g.T.Luggage.stands s c.args.node _ held.front held.front _ _ told.number refl refl told.luggage)
