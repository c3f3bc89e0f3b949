use Rattle.std.proofs.Common.{◌≡◌, sym, ◌∙◌}
use Rattle.crl_sections.proofs.Ends.{ends_last}
use Rattle.crl_sections.proofs.sections.Sections.end_write.Goals as goal

pub returns-clause-sections : goal.returns-clause-sections
returns-clause-sections c = ends_last c.args.name c.args.self.now c.take.new.self c.unwrap.result (sym c.take.ensures.row ∙ c.unwrap.ensures) c.end_write.ensures.rest c.take.ensures.gone
