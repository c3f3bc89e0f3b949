use Rattle.crl_wire.proofs.FrameLemmas.{frame_again}
use Rattle.crl_wire.proofs.laws.frame_is_read.Goals as goal

pub returns : goal.returns
returns c = frame_again
