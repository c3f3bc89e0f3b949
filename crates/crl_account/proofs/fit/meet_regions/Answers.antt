use Rattle.std.proofs.Common.{arith}
use Rattle.crl_account.specs.Reports.{FitsRegion}
use Rattle.crl_account.proofs.Elements.{met_more, met_all}
use Rattle.crl_account.proofs.fit.meet_regions.Goals as goal

pub loop-region-preserved : goal.loop-region-preserved
loop-region-preserved c = met_more FitsRegion c.args.regions.now c.loop-region.region-index c.region-item.result c.loop-region-test.true c.region-item.is c.loop-region.invariant c.meet_region.ensures

pub returns : goal.returns
returns c = met_all FitsRegion c.args.regions.now c.loop-region.region-index (omega (arith, c.loop-region-test.false)) c.loop-region.invariant
