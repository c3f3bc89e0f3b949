use Rattle.std.proofs.Common.{◌∙◌}
use Rattle.crl_journal.specs.Merging.{all_lists}
use Rattle.crl_journal.proofs.Telling.{tells_run}
use Rattle.crl_journal.proofs.merging.account.Goals as goal

pub returns-clause-told : goal.returns-clause-told
returns-clause-told c = λ run is. c.in_ok-entries.ensures ∙ tells_run run (all_lists c.args.journals.items) is
