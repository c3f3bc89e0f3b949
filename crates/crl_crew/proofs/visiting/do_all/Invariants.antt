use Rattle.crl_crew.specs.Working.{WorksAt}
use Rattle.crl_crew.proofs.visiting.do_all.Given as goal

abbrev pub invariant-loop : goal.invariant-loop
invariant-loop g l = WorksAt g.N.Member.state l.nodes l.fn.held.number l.statements l.pass l.held l.player
