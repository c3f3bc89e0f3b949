use Rattle.crl_crew.specs.Working.{IsIdle}
use Rattle.crl_crew.proofs.workers.work_on.Given as goal

abbrev pub invariant-loop : goal.invariant-loop
invariant-loop g l = IsIdle l.nodes l.pass
