use Rattle.std.proofs.Common.{map}
use Rattle.crl_run.specs.Turning.{SayOfSome}
use Rattle.crl_run.proofs.turning.what_is_left.Given as goal

abbrev pub invariant-loop-i : goal.invariant-loop-i
invariant-loop-i l = SayOfSome (map (λ b. b.items) l.blocks) l.players l.i l.left.items
