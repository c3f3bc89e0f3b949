use Rattle.crl_sections.proofs.Known.{known_absent, known_count}
use Rattle.crl_sections.proofs.sections.Sections.note.Goals as goal

pub returns-clause-absent : goal.returns-clause-absent
returns-clause-absent c = rw (← c.self.view_is) (known_absent _ (c.self.invariant.known c.args.name))

pub returns-clause-count : goal.returns-clause-count
returns-clause-count c = rw (← c.self.view_is) (known_count _ (c.self.invariant.known c.args.name))
