use Rattle.crl_deeds.proofs.Cases.Heard.{message_deed}
use Rattle.crl_deeds.proofs.deeds.messages_are_deeds.Goals as goal

pub returns : goal.returns
returns c = message_deed
