use Rattle.std.proofs.Common.{◌∙◌}
use Rattle.crl_machine.specs.SingleMachine.{start}
use Rattle.crl_machine.proofs.Runs.{newest_all, legal_behind}
use Rattle.crl_machine.proofs.theorems.reads_show_the_last_write.Goals as goal

pub returns : goal.returns
returns c = λ n m q seen es fs h. (legal_behind (start n) es fs _ h).1.2 ∙ newest_all (start n) q es
