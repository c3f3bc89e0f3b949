use Rattle.std.proofs.Common.{rules}
use Rattle.crl_turns.proofs.Shaping.{takes_as}
use Rattle.crl_turns.proofs.turns.Turns.take_as.Goals as goal

pub compare_exchange-requires : goal.compare_exchange-requires
compare_exchange-requires g c = (search rules, search rules, takes_as g.V.Turned.shape g.V.Turned.enabled g.V.Turned.touches g.V.Turned.stands c.args.self.now.table.shared.key _ c.requires.key _ _ _ _ c.requires.part c.requires.bare)
