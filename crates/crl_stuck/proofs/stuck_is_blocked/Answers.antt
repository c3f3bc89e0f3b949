use Rattle.crl_stuck.proofs.Laws.{stuck_has_none, ends_stuck, stuck_chosen}
use Rattle.crl_stuck.proofs.stuck_is_blocked.Goals as goal

pub returns : goal.returns
returns c = record { chosen = stuck_chosen; runs = ends_stuck; back = stuck_has_none }
