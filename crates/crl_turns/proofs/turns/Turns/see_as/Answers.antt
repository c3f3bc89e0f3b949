use Rattle.std.proofs.Common.{rules}
use Rattle.crl_turns.proofs.Shaping.{sees_as}
use Rattle.crl_turns.proofs.turns.Turns.see_as.Goals as goal

pub load-requires : goal.load-requires
load-requires g c = (search rules, search rules, sees_as g.V.Turned.shape g.V.Turned.enabled g.V.Turned.touches g.V.Turned.stands c.args.self.now.table.shared.key _ c.requires.key _ _ _)
