use Rattle.std.proofs.Common.{◌∙◌, ap}
use Rattle.crl_model.specs.declared.name.Name.{Name}
use Rattle.crl_model.specs.declared.call.Call.TheVariants.{EndRead}
use Rattle.crl_model.specs.declared.event.Event.TheVariants as event
use Rattle.crl_protocol.specs.Calls.{node_calls}
use Rattle.crl_protocol.specs.World.{commits}
use Rattle.crl_desk.specs.Desks.{state}
use Rattle.crl_node.proofs.Called.{call_few, call_before, call_node, end_read_acts}
use Rattle.crl_node.proofs.calling.make_end_read.Goals as goal

-- src/calling.rt:89:5
pub conclude-requires-clause-before : goal.conclude-requires-clause-before
conclude-requires-clause-before c =
    call_before _ _ (state c.args.desk.now) _ _ (end_read_acts _ _ _ _ _ c.name-name.ensures c.requires.allowed c.end_read.ensures.state) c.len-before.ensures

pub conclude-requires-clause-few : goal.conclude-requires-clause-few
conclude-requires-clause-few c =
    call_few _ _ (state c.args.desk.now) _ (end_read_acts _ _ _ _ _ c.name-name.ensures c.requires.allowed c.end_read.ensures.state) c.requires.node.few

-- src/calling.rt:77:1
pub returns-clause-state : goal.returns-clause-state
returns-clause-state c =
    let n = state c.args.desk.now in
    call_node _ (EndRead c.args.guard.name) (EndRead c.name-name.result) n _ _ _ (end_read_acts _ _ _ _ _ c.name-name.ensures c.requires.allowed c.end_read.ensures.state) c.len-before.ensures c.conclude.ensures.state
    ∙ ap (λ (x : Name). commits c.args.at (event.Call n.me (EndRead x)) (node_calls (EndRead c.args.guard.name) n)) c.name-name.ensures
