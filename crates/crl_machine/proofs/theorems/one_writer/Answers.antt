use Rattle.crl_machine.specs.SingleMachine.{start}
use Rattle.crl_machine.proofs.Runs.{exclusive_all, exclusive_start}
use Rattle.crl_machine.proofs.theorems.one_writer.Goals as goal

pub returns : goal.returns
returns c = λ n es legal. exclusive_all (start n) es (exclusive_start n) legal
