use Rattle.crl_machine.specs.SingleMachine.{start}
use Rattle.crl_machine.proofs.Runs.{newest_all}
use Rattle.crl_machine.proofs.theorems.last_write_stays.Goals as goal

pub returns : goal.returns
returns c = λ n q es. newest_all (start n) q es
