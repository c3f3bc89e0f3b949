use Rattle.crl_pieces.proofs.pieces_join.Goals as goal
use Rattle.crl_pieces.proofs.Cut.{join_cut, length_cut}
use Rattle.crl_pieces.proofs.Cells as cells

pub returns-clause-joins : goal.returns-clause-joins
returns-clause-joins c = join_cut

pub returns-clause-number : goal.returns-clause-number
returns-clause-number c = length_cut

pub returns-clause-any_order : goal.returns-clause-any_order
returns-clause-any_order c = cells.any_order

pub returns-clause-gathers : goal.returns-clause-gathers
returns-clause-gathers c = cells.gathered_is
