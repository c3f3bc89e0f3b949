use Rattle.crl_gen.specs.Making.{create_of}
use Rattle.crl_gen.proofs.Each.{loop_step}
use Rattle.crl_gen.proofs.rounds.push_creates.Goals as goal

pub loop-region-preserved : goal.loop-region-preserved
loop-region-preserved c = loop_step (create_of c.args.nodes c.args.node) c.loop-region.region c.args.regions c.loop-region.block.items _ _ c.loop-region-test.true (c.in_ok-push_create.ensures) c.loop-region.invariant
