use Rattle.crl_desk.specs.Desks.{state}
use Rattle.crl_copying.proofs.Recalls.{recall_of_none, no_row}
use Rattle.crl_copying.proofs.calling.take_recall.Goals as goal

pub returns-in-None-clause-state : goal.returns-in-None-clause-state
returns-in-None-clause-state c = recall_of_none _ _ _ _ (state c.args.desk.now) (no_row _ _ c.size.ensures c.in-None.is)
