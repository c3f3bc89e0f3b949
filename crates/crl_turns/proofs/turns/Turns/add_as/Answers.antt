use Rattle.std.proofs.Common.{refl, arith}
use Rattle.crl_turns.proofs.Taking.{refused}
use Rattle.crl_turns.proofs.turns.Turns.add_as.Goals as goal

pub returns-then-found-ge-EVENT_LIMIT-clause-told : goal.returns-then-found-ge-EVENT_LIMIT-clause-told
returns-then-found-ge-EVENT_LIMIT-clause-told g c =
    let t = refused g.V.Turned.shape g.V.Turned.enabled g.V.Turned.touches g.V.Turned.stands g.met.V.Turned.stays g.S.NamedShape.shape c.args.self.now.table.shared.table_id.slots c.args.saw _ g.J.NamedEvent.event _ _ c.requires.rests.0 c.requires.saw c.if-found-saw.false c.append_as-found.ensures.told in
    let full = c.if-found-ge-EVENT_LIMIT.true in
    let limit = t.grows.limit in
    let counts = t.counts in
    record {
      full = omega (arith, counts, full, limit);
      begins = t.grows.begins;
      runs = λ before. t.grows.runs;
      spares = t.grows.spares;
      still = t.grows.still;
      view = t.view;
    }

pub returns-else-found-ge-EVENT_LIMIT-clause-told : goal.returns-else-found-ge-EVENT_LIMIT-clause-told
returns-else-found-ge-EVENT_LIMIT-clause-told g c =
    let t = refused g.V.Turned.shape g.V.Turned.enabled g.V.Turned.touches g.V.Turned.stands g.met.V.Turned.stays g.S.NamedShape.shape c.args.self.now.table.shared.table_id.slots c.args.saw _ g.J.NamedEvent.event _ _ c.requires.rests.0 c.requires.saw c.if-found-saw.false c.append_as-found.ensures.told in
    (refl, c.if-found-ge-EVENT_LIMIT.false, t)
