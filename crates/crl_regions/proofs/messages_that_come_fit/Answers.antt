use Rattle.crl_regions.proofs.messages_that_come_fit.Goals as goal
use Rattle.crl_regions.proofs.NodeLaws.{messages_meet, pieces_meet, whole_meet}

pub returns : goal.returns
returns c = record { messages = messages_meet; pieces = pieces_meet; whole = whole_meet }
