use Rattle.std.proofs.Common.{rules}
use Rattle.crl_turns.proofs.Shaping.{leaves_as}
use Rattle.crl_turns.proofs.turns.Turns.leave_as.Goals as goal

pub load-requires : goal.load-requires
load-requires g c = let slot = c.requires.slot in (search rules, search rules, leaves_as g.V.Turned.shape g.V.Turned.enabled g.V.Turned.touches g.V.Turned.stands c.args.self.now.table.shared.key _ c.requires.key _ _ _ slot.0 slot.1 slot.2 slot.3)
