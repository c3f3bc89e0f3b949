use Rattle.std.proofs.Common.{◌≡◌, ◌+◌, ◌*◌, ◌≤◌, length, drop}
use Rattle.crl_home.specs.Debts.{owed_to_copies}
use Rattle.crl_home.proofs.copies.owed_to_copies.Given as goal

abbrev pub invariant-loop-copy : goal.invariant-loop-copy
invariant-loop-copy l = record {
  sum : l.owed + owed_to_copies (drop l.copy-index l.listed) ≡ owed_to_copies l.listed;
  bound : l.owed ≤ 2 * l.copy-index;
  within : l.copy-index ≤ length l.listed;
}
