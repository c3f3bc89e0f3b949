use Rattle.crl_machine.specs.SingleMachine.{start}
use Rattle.crl_machine.proofs.Named.{named_all, named_start}
use Rattle.crl_machine.proofs.theorems.regions_are_named.Goals as goal

pub returns : goal.returns
returns c = λ n es legal. named_all (start n) es (named_start n) legal
