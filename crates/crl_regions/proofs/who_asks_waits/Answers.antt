use Rattle.crl_regions.proofs.who_asks_waits.Goals as goal
use Rattle.crl_regions.proofs.NodeLaws.{askers_wait, waiters_ask}

pub returns : goal.returns
returns c = record { asks = askers_wait; waits = waiters_ask }
