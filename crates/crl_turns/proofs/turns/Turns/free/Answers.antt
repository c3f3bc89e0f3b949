use Rattle.std.proofs.Common.{rules}
use Rattle.crl_turns.proofs.Shaping.{frees_as}
use Rattle.crl_turns.proofs.turns.Turns.free.Goals as goal

pub store-requires : goal.store-requires
store-requires g c = let value = c.requires.value in (search rules, search rules, frees_as g.V.Turned.shape g.V.Turned.enabled g.V.Turned.touches g.V.Turned.stands c.args.self.now.table.shared.key g.met.V.Turned.stays _ _ _ _ value.0 c.requires.part c.requires.held c.requires.level value.1 value.2)
