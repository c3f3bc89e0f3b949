use Rattle.crl_printed.proofs.Laws.{printable_history}
use Rattle.crl_printed.proofs.legal_entries_are_printable.Goals as goal

pub returns : goal.returns
returns c = printable_history
