use Rattle.std.proofs.Common.{arith}
use Rattle.std.proofs.lemmas.Grind.{common_steps}
use Rattle.std.proofs.lemmas.Int.{ints, to_z-of_z}
use Rattle.crl_machine.proofs.round.sum_of.Goals as goal

pub loop-row-preserved : goal.loop-row-preserved
loop-row-preserved c = record {
  rest = grind (arith, common_steps, to_z-of_z);
  low = omega (arith, ints);
  high = omega (arith, ints);
}
