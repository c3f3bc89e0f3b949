use Rattle.crl_turns.proofs.Taking.{looks}
use Rattle.crl_turns.proofs.turns.Turns.look_as.Goals as goal

pub returns-clause-told : goal.returns-clause-told
returns-clause-told g c = looks g.V.Turned.shape g.V.Turned.enabled g.V.Turned.touches g.V.Turned.stands g.met.V.Turned.stays g.S.NamedShape.shape c.args.self.now.table.shared.table_id.slots _ _ _ c.requires.level c.see_as.ensures.told
