use Rattle.crl_stuck.proofs.Laws.{names_stuck}
use Rattle.crl_stuck.proofs.reports_name_each_stuck_node.Goals as goal

pub returns : goal.returns
returns c = names_stuck
