use Rattle.std.proofs.Common.{sym, ap, ◌∙◌, length, List}
use Rattle.crl_model.specs.declared.entry.Entry.{Entry}
use Rattle.crl_journal.specs.RecordsState.{RecordsState}
use Rattle.crl_journal.proofs.Recorded.{recorded_many}
use Rattle.crl_journal.proofs.records.Records.len.Goals as goal

pub returns : goal.returns
returns c =
    ap (λ (l : List Entry). length l) c.as_slice.ensures.value ∙ sym (recorded_many c.self.inside.positions.items c.self.inside.entries.items c.self.invariant)
    ∙ ap (λ (r : RecordsState). length r.list) c.self.view_is
