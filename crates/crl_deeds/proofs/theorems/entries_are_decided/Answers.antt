use Rattle.crl_deeds.proofs.Cases.Entries.{decided_by_call, decided_by_message, decided}
use Rattle.crl_deeds.proofs.theorems.entries_are_decided.Goals as goal

pub returns : goal.returns
returns c = record { calls = decided_by_call; messages = decided_by_message; events = decided }
