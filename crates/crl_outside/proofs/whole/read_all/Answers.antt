use Rattle.std.proofs.Common.{◌++◌, take, arith}
use Rattle.crl_outside.specs.Faults.{ConsumesFront}
use Rattle.crl_outside.proofs.Streams.{consumes_more}
use Rattle.crl_outside.proofs.whole.read_all.Goals as goal

-- lost are the bytes read so far and those of the last pull
pub returns-in_err-extend_from_slice-clause-lost :
    goal.returns-in_err-extend_from_slice-clause-lost
returns-in_err-extend_from_slice-clause-lost g c =
    let lost : ConsumesFront (g.S.Source.left c.args.source.now) (g.S.Source.left c.pull.new.self) = (c.loop-buffer.all.items ++ take c.in_ok-count.count c.pull.new.into, consumes_more _ _ _ _ _ c.loop-buffer.invariant.taken c.in_ok-count.ensures.bytes.0) in
    grind (arith, lost)
