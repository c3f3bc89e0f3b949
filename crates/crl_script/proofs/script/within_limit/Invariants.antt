use Rattle.std.proofs.Common.{◌≡◌, ◌+◌, ◌^◌, length, map, sum, drop}
use Rattle.crl_script.proofs.script.within_limit.Given as goal

-- what is left, and all statements, are the limit and the statements that are still to count
abbrev pub invariant-loop-block : goal.invariant-loop-block
invariant-loop-block l = l.left + sum (map length (map (λ b. b.items) l.blocks)) ≡ 2 ^ 40 + sum (map length (map (λ b. b.items) (drop l.block-index l.blocks)))
