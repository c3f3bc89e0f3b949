use Rattle.std.proofs.Common.{rules}
use Rattle.crl_turns.proofs.Shaping.{releases_as}
use Rattle.crl_turns.proofs.turns.Turns.release.Goals as goal

pub store-requires : goal.store-requires
store-requires g c = (search rules, search rules, releases_as g.V.Turned.shape g.V.Turned.enabled g.V.Turned.touches g.V.Turned.stands c.args.self.now.table.shared.key _ _ _ _ c.requires.part c.requires.bare c.requires.held)
