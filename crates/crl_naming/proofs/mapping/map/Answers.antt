use Rattle.std.proofs.Common.{sym, ◌∙◌}
use Rattle.crl_desk.specs.Desks.{state}
use Rattle.crl_naming.proofs.Limits.{map_fits}
use Rattle.crl_naming.proofs.mapping.map.Goals as goal

pub one_more-requires : goal.one_more-requires
one_more-requires c = map_fits (state c.args.desk.now) c.args.name c.in-Some.mapping c.requires.verdict (sym c.mapping_of.ensures ∙ c.in-Some.is)
