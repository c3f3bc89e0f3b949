use Rattle.crl_deeds.proofs.Cases.Turns.{turn_of}
use Rattle.crl_deeds.proofs.deeds.events_are_turns.Goals as goal

pub returns : goal.returns
returns c = turn_of
