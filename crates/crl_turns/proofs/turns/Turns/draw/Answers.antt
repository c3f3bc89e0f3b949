use Rattle.std.proofs.Common.{rules}
use Rattle.crl_turns.proofs.Shaping.{draws_as}
use Rattle.crl_turns.proofs.turns.Turns.draw.Goals as goal

pub load-requires : goal.load-requires
load-requires g c = (search rules, search rules, draws_as g.V.Turned.shape g.V.Turned.enabled g.V.Turned.touches g.V.Turned.stands c.args.self.now.table.shared.key _ _ _ _ c.requires.part c.requires.bare c.requires.held)
