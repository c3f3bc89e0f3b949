use Rattle.crl_lifetime.proofs.Laws.{stages_move, stages_nowhere, stages_without_serial}
use Rattle.crl_lifetime.proofs.stages_only_move_on.Goals as goal

pub returns : goal.returns
returns c = record { moves = stages_move; nowhere = stages_nowhere; serials = stages_without_serial }
