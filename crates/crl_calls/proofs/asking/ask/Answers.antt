use Rattle.std.proofs.Common.{refl}
use Rattle.crl_cluster.specs.Clusters.{shape_of}
use Rattle.crl_calls.proofs.Asked.{spent_before, asked_caller, asked_told}
use Rattle.crl_calls.proofs.asking.ask.Goals as goal

pub returns-then-who-clause-told : goal.returns-then-who-clause-told
returns-then-who-clause-told g c = spent_before c.args.cluster.now c.args.call c.args.who.now c.requires.caller c.if-who.true

pub returns-clause-caller : goal.returns-clause-caller
returns-clause-caller g c =
    asked_caller c.args.cluster.now (shape_of c.args.cluster.now) c.args.call c.args.who.now _ c.answer_to-answer.result c.requires.caller c.answer_to-answer.ensures.here refl c.finds_full-who.ensures c.answer_to-answer.ensures.told

pub returns-clause-told : goal.returns-clause-told
returns-clause-told g c =
    asked_told (shape_of c.args.cluster.now) c.args.call (g.F.Form.gives c.args.form) c.args.word c.args.who.now _ c.answer_to-answer.result c.given.result
    c.requires.word c.if-who.false refl c.finds_full-who.ensures c.answer_to-answer.ensures.told c.given.ensures
