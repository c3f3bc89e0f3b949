use Rattle.crl_wire.proofs.FrameLemmas.{excess_long}
use Rattle.crl_wire.proofs.laws.excess_is_long.Goals as goal

pub returns : goal.returns
returns c = excess_long
