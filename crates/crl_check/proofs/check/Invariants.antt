use Rattle.std.proofs.Common.{take}
use Rattle.crl_machine.specs.SingleMachine.{start}
use Rattle.crl_check.specs.Judging.{HasJudged}
use Rattle.crl_check.proofs.check.Given as goal

-- the entries so far are judged
abbrev pub invariant-loop-entry : goal.invariant-loop-entry
invariant-loop-entry l = HasJudged (start l.nodes) (take l.entry-index l.entries) l.judge
