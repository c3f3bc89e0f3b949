use Rattle.std.proofs.Common.{◌∙◌, ap, arith}
use Rattle.crl_protocol.specs.Places.{at}
use Rattle.crl_gathering.proofs.Filling.{none_more}
use Rattle.crl_gathering.proofs.slots.empty_slots.Goals as goal

pub loop-preserved : goal.loop-preserved
loop-preserved c = record {
  nothing = λ n. ap (at n) c.in_ok-push.ensures.items ∙ none_more n c.loop.slots.items ∙ c.loop.invariant.nothing n;
  places = grind arith;
}
