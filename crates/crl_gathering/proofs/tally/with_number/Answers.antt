use Rattle.std.proofs.Common.{arith}
use Rattle.std.proofs.lemmas.Int.{ints}
use Rattle.crl_gathering.proofs.tally.with_number.Goals as goal

pub returns-clause-within : goal.returns-clause-within
returns-clause-within c = λ n h. record { low = omega (arith, ints, h.low); high = omega (arith, ints, h.high) }
