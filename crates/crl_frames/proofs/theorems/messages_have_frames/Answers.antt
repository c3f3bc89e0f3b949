use Rattle.crl_protocol.specs.World.{world_of, pieces_in_boxes}
use Rattle.crl_wire.specs.Frame.{Fits}
use Rattle.crl_frames.specs.Frames.{IsReadAgain}
use Rattle.crl_frames.proofs.Laws.{all_fit, all_byte_frames}
use Rattle.crl_frames.proofs.theorems.messages_have_frames.Goals as goal
use Rattle.crl_rounds.proofs.Laws.{all_map}

pub returns-clause-fits : goal.returns-clause-fits
returns-clause-fits c = all_fit

pub returns-clause-again : goal.returns-clause-again
returns-clause-again c = λ count capacity run r.
    all_map Fits IsReadAgain (λ p fits. c.frame_is_read.ensures p fits) (pieces_in_boxes (world_of count capacity run)) (all_fit count capacity run r)

pub returns-clause-bytes : goal.returns-clause-bytes
returns-clause-bytes c = all_byte_frames
