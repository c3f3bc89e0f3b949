use Rattle.std.proofs.Common.{ap, ap₂, ◌∙◌, ◌++◌, ◌∷◌, []}
use Rattle.crl_journal.specs.RecordsState.{RecordsState, with_positions}
use Rattle.crl_journal.proofs.Recorded.{recorded_more}
use Rattle.crl_journal.proofs.records.Records.push.Goals as goal

pub returns-clause-list : goal.returns-clause-list
returns-clause-list c =
    ap₂ with_positions c.push_reserved.ensures.items c.push_reserved-2.ensures.items
    ∙ recorded_more c.self.inside.positions.items c.self.inside.entries.items c.args.position c.args.entry c.self.invariant
    ∙ ap (λ (r : RecordsState). r.list ++ record { position = c.args.position; entry = c.args.entry } ∷ []) c.self.view_is
