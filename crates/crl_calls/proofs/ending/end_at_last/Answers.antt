use Rattle.std.proofs.Common.{refl}
use Rattle.crl_cluster.specs.Clusters.{shape_of}
use Rattle.crl_calls.proofs.Ended.{spent_unended, ended_caller, ended_told}
use Rattle.crl_calls.proofs.ending.end_at_last.Goals as goal

pub returns-then-who-clause-told : goal.returns-then-who-clause-told
returns-then-who-clause-told g c = (refl, spent_unended c.args.cluster.now c.args.who.now c.requires.caller c.if-who.true)

pub returns-clause-caller : goal.returns-clause-caller
returns-clause-caller g c =
    ended_caller c.args.cluster.now (shape_of c.args.cluster.now) (g.G.Ending.call c.args.guard) (λ n. g.G.Ending.may_end n c.args.guard) c.args.guard c.args.who.now _ c.end_or_never-answer.result
    c.requires.caller c.end_or_never-answer.ensures.here refl c.finds_full-who.ensures c.end_or_never-answer.ensures.told

pub returns-clause-told : goal.returns-clause-told
returns-clause-told g c =
    ended_told (shape_of c.args.cluster.now) (g.G.Ending.call c.args.guard) (λ n. g.G.Ending.may_end n c.args.guard) c.args.guard c.args.who.now _ c.end_or_never-answer.result
    c.if-who.false refl c.finds_full-who.ensures c.end_or_never-answer.ensures.told
