use Rattle.crl_desk.specs.Desks.{state}
use Rattle.crl_desk.proofs.Opens.{opens_law, opens_answer}
use Rattle.crl_desk.proofs.opening.open_section.Goals as goal

pub returns-clause-state : goal.returns-clause-state
returns-clause-state c =
    opens_law c.args.at c.args.write c.args.name c.args.shown c.shown.inside.began (state c.args.desk.now) _ _ _ _
    c.shown.view_is c.begin-number.ensures.sections c.start_entry.ensures c.record.ensures.records c.record.ensures.notes.0

pub returns-clause-answer : goal.returns-clause-answer
returns-clause-answer c =
    opens_answer c.args.write c.args.name c.args.shown c.shown.inside.began c.shown.inside.guard.items c.begin-number.result (state c.args.desk.now) _
    c.shown.view_is c.shown.invariant.0 c.begin-number.ensures.number c.guard_answer.ensures
