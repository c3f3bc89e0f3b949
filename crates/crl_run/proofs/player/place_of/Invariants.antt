use Rattle.crl_run.proofs.Holding.{NoneBefore}
use Rattle.crl_run.proofs.player.place_of.Given as goal

abbrev pub invariant-loop-place : goal.invariant-loop-place
invariant-loop-place l = NoneBefore l.name l.guards.items l.place
