use Rattle.std.proofs.Common.{sym, ◌∙◌}
use Rattle.crl_cache.proofs.Looking.{found}
use Rattle.crl_cache.proofs.kept.place_of.Goals as goal

pub returns-then-eq : goal.returns-then-eq
returns-then-eq c = found c.args.name c.args.list.now c.loop-place.place _ c.loop-place.invariant c.loop-place-test.true (sym c.eq.ensures ∙ c.if-eq.true)
