use Rattle.crl_calls.specs.Callers.{IsCallerOf}
use Rattle.crl_calls_tests.proofs.Lists.{all_front, all_last}
use Rattle.crl_calls_tests.proofs.callers.last_of.Goals as goal

pub returns-clause-rest : goal.returns-clause-rest
returns-clause-rest c = all_front (λ who. IsCallerOf c.args.nodes.now who) c.args.list.now.items c.pop.new.self.items _ c.pop.ensures.items c.requires

pub returns-clause-last : goal.returns-clause-last
returns-clause-last c = all_last (λ who. IsCallerOf c.args.nodes.now who) c.args.list.now.items c.pop.new.self.items c.pop.result c.pop.ensures.items c.requires
