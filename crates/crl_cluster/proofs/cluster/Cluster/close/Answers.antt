use Rattle.std.proofs.Common.{sym, ap, subst, ◌∙◌}
use Rattle.crl_turns.specs.declared.turned.Shape.{Shape}
use Rattle.crl_world.specs.Seen.{world_of_nodes, IsKept}
use Rattle.crl_cluster.specs.Clusters.{view_of, shape_of}
use Rattle.crl_cluster.proofs.Drained.{nodes, drained, drained_kept, among_last}
use Rattle.crl_cluster.proofs.cluster.Cluster.close.Goals as goal

pub closed_of-requires-clause-kept : goal.closed_of-requires-clause-kept
closed_of-requires-clause-kept g c =
    let s = shape_of c.args.self in
    let closes = c.in-Ok-close.ensures in
    subst (λ k. IsKept (world_of_nodes (nodes g.N.Member.state g.T.Luggage.stands s closes.history closes.runs c.in-Ok-close.values.items (closes.many ∙ c.args.self.all) closes.each) c.in-Ok-close.events k))
    (sym (ap (λ (k : Shape). k.extra) c.requires.here.shape_is))
    (drained_kept g.N.Member.state g.T.Luggage.stands s closes.history closes.runs c.in-Ok-close.values.items (closes.many ∙ c.args.self.all) closes.each c.in-Ok-close.events closes.counts closes.limit c.args.self.some)

pub returns-in-Ok-close : goal.returns-in-Ok-close
returns-in-Ok-close g c =
    let s = shape_of c.args.self in
    let closes = c.in-Ok-close.ensures in
    drained g.N.Member.state g.T.Luggage.stands s closes.history closes.runs c.in-Ok-close.values.items (closes.many ∙ c.args.self.all) closes.each c.in-Ok-close.events closes.counts closes.limit (view_of c.args.pass)
    (closes.fronts c.args.pass.turns (among_last _ _ _ c.push_reserved.ensures.items)) c.args.pass.shape.extra (ap (λ (k : Shape). k.extra) c.requires.here.shape_is) _ c.closed_of.ensures.world _ c.closed_of.ensures.luggage
