use Rattle.std.proofs.Common.{rules}
use Rattle.crl_turns.proofs.Shaping.{catches_as}
use Rattle.crl_turns.proofs.turns.Turns.catch_up_as.Goals as goal

pub load-requires : goal.load-requires
load-requires g c = (search rules, search rules, catches_as g.V.Turned.shape g.V.Turned.enabled g.V.Turned.touches g.V.Turned.stands c.args.self.now.table.shared.key _ c.requires.key _ _ _ c.requires.longer.0 c.requires.longer.1)
