use Rattle.std.proofs.Common.{rules}
use Rattle.crl_turns.proofs.Shaping.{appends_as}
use Rattle.crl_turns.proofs.turns.Turns.append_as.Goals as goal

pub compare_exchange-requires : goal.compare_exchange-requires
compare_exchange-requires g c = (search rules, search rules, appends_as g.V.Turned.shape g.V.Turned.enabled g.V.Turned.touches g.V.Turned.stands c.args.self.now.table.shared.key g.met.V.Turned.stays _ c.requires.key _ _ _ _ _ c.requires.saw c.requires.enabled c.requires.held c.requires.room)
