use Rattle.crl_calls.specs.Callers.{IsCallerOf}
use Rattle.crl_calls_bench.proofs.parts.sections.Given as goal

abbrev pub invariant-loop : goal.invariant-loop
invariant-loop g l = IsCallerOf l.nodes l.who
