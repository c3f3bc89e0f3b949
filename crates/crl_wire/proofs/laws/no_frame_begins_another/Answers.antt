use Rattle.crl_wire.proofs.FrameLemmas.{frames_apart}
use Rattle.crl_wire.proofs.laws.no_frame_begins_another.Goals as goal

pub returns : goal.returns
returns c = frames_apart
