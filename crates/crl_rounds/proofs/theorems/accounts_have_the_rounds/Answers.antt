use Rattle.crl_rounds.proofs.Laws.{came_from_start, told_from_start}
use Rattle.crl_rounds.proofs.theorems.accounts_have_the_rounds.Goals as goal

pub returns : goal.returns
returns c = record { came = came_from_start; told = told_from_start }
