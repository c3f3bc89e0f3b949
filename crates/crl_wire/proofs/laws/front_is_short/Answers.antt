use Rattle.crl_wire.proofs.FrameLemmas.{front_short}
use Rattle.crl_wire.proofs.laws.front_is_short.Goals as goal

pub returns : goal.returns
returns c = front_short
