use Rattle.std.proofs.Common.{◌≡◌, drop}
use Rattle.crl_model.specs.FoldOf.{least_from}
use Rattle.crl_machine.specs.Rounds.{cames, parts_in}
use Rattle.crl_machine.proofs.round.least_of.Given as goal

abbrev pub invariant-loop-row : goal.invariant-loop-row
invariant-loop-row l = least_from l.least (parts_in l.last l.k (cames (drop l.row-index l.rows))) ≡ least_from l.fn.first (parts_in l.last l.k (cames l.rows))
