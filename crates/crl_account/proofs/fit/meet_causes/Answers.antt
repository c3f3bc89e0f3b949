use Rattle.std.proofs.Common.{arith}
use Rattle.std.proofs.lemmas.List.Elements.{All-more}
use Rattle.crl_account.specs.Reports.{FitsBlocked}
use Rattle.crl_account.proofs.Elements.{met_all}
use Rattle.crl_account.proofs.fit.meet_causes.Goals as goal

pub loop-cause-preserved : goal.loop-cause-preserved
loop-cause-preserved c = All-more FitsBlocked c.args.causes.now c.loop-cause.cause-index _ c.loop-cause-test.true c.loop-cause.invariant c.meet_cause.ensures

pub returns : goal.returns
returns c = met_all FitsBlocked c.args.causes.now c.loop-cause.cause-index (omega (arith, c.loop-cause-test.false)) c.loop-cause.invariant
