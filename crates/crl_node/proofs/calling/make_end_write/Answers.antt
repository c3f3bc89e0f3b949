use Rattle.std.proofs.Common.{◌∙◌, ap, ℕ, List}
use Rattle.crl_model.specs.declared.name.Name.{Name}
use Rattle.crl_model.specs.declared.call.Call.TheVariants.{EndWrite}
use Rattle.crl_model.specs.declared.event.Event.TheVariants as event
use Rattle.crl_protocol.specs.Calls.{node_calls}
use Rattle.crl_protocol.specs.World.{commits}
use Rattle.crl_desk.specs.Desks.{state}
use Rattle.crl_node.proofs.Called.{call_few, call_before, call_node, end_write_acts}
use Rattle.crl_node.proofs.calling.make_end_write.Goals as goal

-- src/calling.rt:114:5
pub conclude-requires-clause-before : goal.conclude-requires-clause-before
conclude-requires-clause-before c =
    call_before _ _ (state c.args.desk.now) _ _ (end_write_acts _ _ _ _ _ _ _ c.name-name.ensures c.into_bytes.ensures c.requires.allowed c.end_write.ensures.state) c.len-before.ensures

pub conclude-requires-clause-few : goal.conclude-requires-clause-few
conclude-requires-clause-few c =
    call_few _ _ (state c.args.desk.now) _ (end_write_acts _ _ _ _ _ _ _ c.name-name.ensures c.into_bytes.ensures c.requires.allowed c.end_write.ensures.state) c.requires.node.few

-- src/calling.rt:101:1
pub returns-clause-state : goal.returns-clause-state
returns-clause-state c =
    let n = state c.args.desk.now in
    let calls = node_calls (EndWrite c.args.guard.name c.args.guard.bytes) n in
    call_node _ (EndWrite c.args.guard.name c.args.guard.bytes) (EndWrite c.name-name.result c.from_vec-none.result) n _ _ _
    (end_write_acts _ _ _ _ _ _ _ c.name-name.ensures c.into_bytes.ensures c.requires.allowed c.end_write.ensures.state) c.len-before.ensures c.conclude.ensures.state
    ∙ ap (λ (x : Name). commits c.args.at (event.Call n.me (EndWrite x c.from_vec-none.result)) calls) c.name-name.ensures
    ∙ ap (λ (x : List ℕ). commits c.args.at (event.Call n.me (EndWrite c.args.guard.name x)) calls) (c.from_vec-none.ensures ∙ c.new.ensures.items)
