use Rattle.std.proofs.Common.{◌∙◌, sym, ap, Some, ◌∷◌}
use Rattle.atomic_table.specs.Table.{rest}
use Rattle.crl_turns.proofs.Taking.{got, slot_after, taking}
use Rattle.crl_turns.proofs.turns.Turns.try_take_as.Goals as goal

pub exchange-requires : goal.exchange-requires
exchange-requires g c =
    let t = got g.V.Turned.shape g.V.Turned.enabled g.V.Turned.touches g.V.Turned.stands g.met.V.Turned.stays g.S.NamedShape.shape c.args.self.now.table.shared.table_id.slots c.args.i _ _ _ c.requires.bare c.if-take_as-ne0.false c.take_as.ensures.told in
    let e = ap (λ z. z.1) t.4 in
    (c.take_as.ensures.here ∙ c.requires.here, (Some t.1, e ∙ ap (λ l. (c.args.i, Some t.1) ∷ rest l) (sym e)))

pub leave_as-requires-clause-slot : goal.leave_as-requires-clause-slot
leave_as-requires-clause-slot g c =
    let t = slot_after g.V.Turned.shape g.V.Turned.enabled g.V.Turned.touches g.V.Turned.stands g.met.V.Turned.stays g.S.NamedShape.shape c.args.self.now.table.shared.table_id.slots c.args.i _ _ _ _ _ c.requires.bare c.requires.level c.if-take_as-ne0.false c.take_as.ensures.told c.exchange.ensures.2 c.exchange.ensures.3 in
    (c.args.i, c.requires.part, t.0, t.1)

pub returns-clause-told : goal.returns-clause-told
returns-clause-told g c =
    (taking g.V.Turned.shape g.V.Turned.enabled g.V.Turned.touches g.V.Turned.stands g.met.V.Turned.stays g.S.NamedShape.shape c.args.self.now.table.shared.table_id.slots c.args.i _ _ _ _ _ c.requires.bare c.requires.level c.if-take_as-ne0.false c.take_as.ensures.told c.exchange.ensures.2 c.exchange.ensures.3 _ _ _ c.unwrap-value.ensures c.leave_as.ensures.told).1
