use Rattle.crl_frames.proofs.Laws.{all_in_table, all_to_carry}
use Rattle.crl_frames.proofs.theorems.pieces_are_in_table.Goals as goal

pub returns-clause-boxes : goal.returns-clause-boxes
returns-clause-boxes c = all_in_table

pub returns-clause-carried : goal.returns-clause-carried
returns-clause-carried c = all_to_carry
