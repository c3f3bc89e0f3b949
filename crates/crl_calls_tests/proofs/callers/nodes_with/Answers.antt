use Rattle.std.proofs.Common.{ap}
use Rattle.crl_turns.specs.declared.turned.Shape.{Shape}
use Rattle.crl_calls_tests.proofs.Lists.{all_callers}
use Rattle.crl_calls_tests.proofs.callers.nodes_with.Goals as goal

pub returns-in-Ok : goal.returns-in-Ok
returns-in-Ok c = record { callers = all_callers _ _ _ c.in-Ok.ensures.new; nodes = ap (λ (s : Shape). s.parts) c.in-Ok.ensures.shape }
