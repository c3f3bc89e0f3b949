use Rattle.std.proofs.Common.{arith}
use Rattle.crl_account.specs.Account.{FitsEntry}
use Rattle.crl_account.proofs.Elements.{met_more, met_all}
use Rattle.crl_account.proofs.fit.meet_entries.Goals as goal

pub loop-entry-preserved : goal.loop-entry-preserved
loop-entry-preserved c = met_more FitsEntry c.args.entries.now c.loop-entry.entry-index c.entry-item.result c.loop-entry-test.true c.entry-item.is c.loop-entry.invariant c.is_printable-printable.ensures.fits

pub returns : goal.returns
returns c = met_all FitsEntry c.args.entries.now c.loop-entry.entry-index (omega (arith, c.loop-entry-test.false)) c.loop-entry.invariant
