use Rattle.crl_cache.proofs.Looking.{IsPast}
use Rattle.crl_cache.proofs.kept.place_of.Given as goal

abbrev pub invariant-loop-place : goal.invariant-loop-place
invariant-loop-place l = IsPast l.name l.list l.place
