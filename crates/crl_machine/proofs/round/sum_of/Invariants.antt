use Rattle.std.proofs.Common.{◌≡◌, ◌*◌, ◌^◌, drop, pos, neg_ℤ, ◌≤ℤ◌}
use Rattle.crl_model.specs.FoldOf.{sum_from}
use Rattle.crl_machine.specs.Rounds.{cames, parts_in}
use Rattle.crl_machine.proofs.round.sum_of.Given as goal

abbrev pub invariant-loop-row : goal.invariant-loop-row
invariant-loop-row l = record {
  rest : sum_from l.sum (parts_in l.last l.k (cames (drop l.row-index l.rows))) ≡ sum_from (pos 0) (parts_in l.last l.k (cames l.rows));
  low : neg_ℤ (pos (2 ^ 63 * l.row-index)) ≤ℤ l.sum;
  high : l.sum ≤ℤ pos (2 ^ 63 * l.row-index);
}
