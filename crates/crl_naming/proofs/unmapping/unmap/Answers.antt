use Rattle.crl_model.specs.declared.entry.What.TheVariants as what
use Rattle.crl_protocol.specs.Calls.{unmaps_over}
use Rattle.crl_desk.specs.Desks.{state}
use Rattle.crl_naming.proofs.Unmaps.{unmaps_quiet, entry_law}
use Rattle.crl_naming.proofs.unmapping.unmap.Goals as goal

pub returns-clause-state : goal.returns-clause-state
returns-clause-state c =
    let n = state c.args.desk.now in
    let name = c.args.name in
    entry_law c.args.at (what.Unmap name) _ (unmaps_over name (n.maps name) n) _ _ (unmaps_quiet name (n.maps name) n) c.undo.ensures.state c.record.ensures.records c.record.ensures.notes.0

pub returns-clause-answer : goal.returns-clause-answer
returns-clause-answer c =
    let n = state c.args.desk.now in
    let name = c.args.name in
    rw ((unmaps_quiet name (n.maps name) n).answer)
