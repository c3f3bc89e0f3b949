use Rattle.std.proofs.Common.{sym, ap, ◌∙◌}
use Rattle.crl_journal.specs.Merging.{entries_of}
use Rattle.crl_journal.specs.RecordsState.{RecordsState}
use Rattle.crl_journal.proofs.Recorded.{recorded_entries}
use Rattle.crl_journal.proofs.records.Records.into_entries.Goals as goal

pub returns : goal.returns
returns c = sym (recorded_entries c.self.inside.positions.items c.self.inside.entries.items c.self.invariant) ∙ ap (λ (r : RecordsState). entries_of r.list) c.self.view_is
