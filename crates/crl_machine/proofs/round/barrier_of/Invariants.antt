use Rattle.std.proofs.Common.{◌≡◌, drop}
use Rattle.crl_model.specs.FoldOf.{are_barriers}
use Rattle.crl_machine.specs.Rounds.{cames, parts_in}
use Rattle.crl_machine.proofs.round.barrier_of.Given as goal

abbrev pub invariant-loop-row : goal.invariant-loop-row
invariant-loop-row l = are_barriers (parts_in l.last l.k (cames (drop l.row-index l.rows))) ≡ are_barriers (parts_in l.last l.k (cames l.rows))
