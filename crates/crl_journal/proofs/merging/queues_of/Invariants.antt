use Rattle.std.proofs.Common.{◌≡◌, ◌++◌}
use Rattle.crl_journal.specs.Merging.{all_lists}
use Rattle.crl_journal.proofs.merging.queues_of.Given as goal

abbrev pub invariant-loop-records : goal.invariant-loop-records
invariant-loop-records l = l.queues.items ++ all_lists l.records-iterator.rest.items ≡ all_lists l.fn.journals.items
