use Rattle.std.proofs.Common.{◌∙◌, ◌++◌, take}
use Rattle.crl_outside.proofs.Streams.{appends_more, pushed}
use Rattle.crl_outside.proofs.whole.push_all.Goals as goal

pub loop-rest-preserved : goal.loop-rest-preserved
loop-rest-preserved g c =
    let front = c.loop-rest.invariant.front in
    record {
      front = (front.0 ++ take c.in_ok-count.count c.loop-rest.rest.now, pushed _ front.0 c.loop-rest.rest.now c.in_ok-count.count front.1 c.in_ok-count.ensures.bound, appends_more _ _ _ _ _ front.2 c.in_ok-count.ensures.bytes);
      unfailed = c.in_ok-count.ensures.cause.unfailed ∙ c.loop-rest.invariant.unfailed;
    }
