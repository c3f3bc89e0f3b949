use Rattle.std.proofs.Common.{sym, ◌∙◌}
use Rattle.crl_desk.specs.Desks.{state}
use Rattle.crl_naming.proofs.Limits.{unmap_counts}
use Rattle.crl_naming.proofs.unmapping.undo.Goals as goal

pub undo_map-requires-clause-count : goal.undo_map-requires-clause-count
undo_map-requires-clause-count c = unmap_counts (state c.args.desk.now) c.args.name c.in-Some.mapping c.requires.verdict (sym c.mapping_of.ensures ∙ c.in-Some.is)
