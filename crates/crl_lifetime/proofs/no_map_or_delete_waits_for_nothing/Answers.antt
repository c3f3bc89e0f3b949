use Rattle.crl_lifetime.proofs.Laws.{quiet_in_runs}
use Rattle.crl_lifetime.proofs.no_map_or_delete_waits_for_nothing.Goals as goal

pub returns : goal.returns
returns c = quiet_in_runs
