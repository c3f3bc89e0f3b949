use Rattle.std.proofs.Common.{rules}
use Rattle.crl_turns.specs.Rule.{StandsFor}
use Rattle.crl_turns.proofs.Parting.{joins}
use Rattle.crl_turns.proofs.Taking.{joins_told}
use Rattle.crl_turns.proofs.turns.Turns.join_as.Goals as goal

pub join_seat-requires : goal.join_seat-requires
join_seat-requires g c = let key = c.args.self.now.table.shared.key in
    (c.requires.here.0, c.requires.here.1, c.requires.bare.1, search rules, joins (g.V.Turned.enabled key) (g.V.Turned.touches key) (StandsFor g.V.Turned.shape g.V.Turned.stands key) _ _ _ _ c.requires.idle)

pub returns-clause-told : goal.returns-clause-told
returns-clause-told g c = joins_told g.V.Turned.shape g.V.Turned.enabled g.V.Turned.touches g.V.Turned.stands g.met.V.Turned.stays g.S.NamedShape.shape c.args.self.now.table.shared.table_id.slots 0 c.args.seat.now.me.0 c.args.other.me.0 _ _ _ c.requires.level c.join_seat.ensures.2 c.catch_up_as.ensures.told
