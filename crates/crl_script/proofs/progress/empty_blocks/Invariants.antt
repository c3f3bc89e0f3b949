use Rattle.std.proofs.Common.{◌≡◌, [], map, replicate}
use Rattle.crl_script.proofs.progress.empty_blocks.Given as goal

abbrev pub invariant-loop : goal.invariant-loop
invariant-loop l = map (λ b. b.items) l.blocks.items ≡ replicate l.counter []
