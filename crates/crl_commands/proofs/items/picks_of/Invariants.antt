use Rattle.std.proofs.Common.{◌≡◌, ◌≤◌, drop, length, Some}
use Rattle.crl_commands.specs.Picks.{all_values, joined, picks_of, within_limit}
use Rattle.crl_commands.proofs.Values.{texts_of}
use Rattle.crl_commands.proofs.items.picks_of.Given as goal

abbrev pub invariant-loop-item : goal.invariant-loop-item
invariant-loop-item l = (length l.values.items ≤ 1000000)
    × (within_limit (joined (Some l.values.items) (all_values (texts_of (drop l.item-index l.item-items)))) ≡ picks_of l.fn.list)
