use Rattle.std.proofs.Common.{length}
use Rattle.crl_machine.specs.SingleMachine.{start}
use Rattle.crl_check.proofs.Texts.{SoFar}
use Rattle.crl_check.proofs.judge_text.Given as goal

abbrev pub invariant-loop-reader : goal.invariant-loop-reader
invariant-loop-reader l = SoFar (start l.nodes) l.text l.reader l.judge

abbrev pub decreases-loop-reader : goal.decreases-loop-reader
decreases-loop-reader l = length l.reader.bytes
