use Rattle.crl_desk.specs.Desks.{state}
use Rattle.crl_node.proofs.Called.{call_few, call_before, call_told}
use Rattle.crl_node.proofs.calling.make_call.Goals as goal

pub conclude-requires-clause-before : goal.conclude-requires-clause-before
conclude-requires-clause-before c = call_before _ _ (state c.args.desk.now) _ _ c.act-answer.ensures.node c.len-before.ensures

pub conclude-requires-clause-few : goal.conclude-requires-clause-few
conclude-requires-clause-few c = call_few _ _ (state c.args.desk.now) _ c.act-answer.ensures.node c.requires.node.few

pub returns-clause-told : goal.returns-clause-told
returns-clause-told c =
    call_told _ _ _ (state c.args.desk.now) _ _ _ _ c.act-answer.ensures.node c.act-answer.ensures.answer c.act-answer.ensures.noted c.len-before.ensures c.conclude.ensures.state
