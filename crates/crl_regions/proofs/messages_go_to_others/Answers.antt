use Rattle.crl_regions.proofs.messages_go_to_others.Goals as goal
use Rattle.crl_regions.proofs.Addressees.{pieces_to_others, messages_to_others, boxes_to_others}

pub returns : goal.returns
returns c = record { pieces = pieces_to_others; messages = messages_to_others; boxes = boxes_to_others }
