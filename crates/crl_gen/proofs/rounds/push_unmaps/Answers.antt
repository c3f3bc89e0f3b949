use Rattle.std.proofs.Common.{◌∙◌, ap, ◌++◌}
use Rattle.crl_model.specs.declared.call.Call.TheVariants.{Unmap}
use Rattle.crl_gen.specs.Making.{unmap_of, calls}
use Rattle.crl_gen.proofs.Each.{loop_step}
use Rattle.crl_gen.proofs.rounds.push_unmaps.Goals as goal

pub loop-region-preserved : goal.loop-region-preserved
loop-region-preserved c = loop_step (unmap_of c.args.nodes) c.loop-region.region c.args.regions c.loop-region.block.items _ _ c.loop-region-test.true (c.in_ok-push_call.ensures ∙ ap (λ name. c.loop-region.block.items ++ calls (Unmap name)) c.region_name-name.ensures) c.loop-region.invariant
