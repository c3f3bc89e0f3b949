use Rattle.crl_crew.specs.Working.{IsIdle}
use Rattle.crl_crew.proofs.workers.go_round.Given as goal

abbrev pub invariant-loop-k : goal.invariant-loop-k
invariant-loop-k g l = IsIdle l.nodes l.pass
