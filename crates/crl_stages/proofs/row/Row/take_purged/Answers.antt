use Rattle.std.proofs.Common.{◌<◌, arith}
use Rattle.crl_stages.proofs.Bits.{member_below}
use Rattle.crl_stages.proofs.Deletes.{purged_now}
use Rattle.crl_stages.proofs.row.Row.take_purged.Goals as goal

pub remove-missing-requires-clause-node : goal.remove-missing-requires-clause-node
remove-missing-requires-clause-node c =
    let below : c.args.from < c.args.nodes = member_below c.args.nodes c.args.self.missing c.args.from c.requires.fits.1 c.requires.missing in omega arith

pub returns-clause-lifetime : goal.returns-clause-lifetime
returns-clause-lifetime c =
    let row = c.args.self in
    let below = member_below c.args.nodes row.missing c.args.from c.requires.fits.1 c.requires.missing in
    rw c.stage_after-stage.ensures (purged_now c.args.nodes c.args.from row.asked row.missing c.remove-missing.result row.stage c.remove-missing.ensures.members (c.remove-missing.ensures.below c.args.nodes below c.requires.fits.1))

pub returns-clause-fits : goal.returns-clause-fits
returns-clause-fits c =
    let below = member_below c.args.nodes c.args.self.missing c.args.from c.requires.fits.1 c.requires.missing in
    (c.requires.fits.0, c.remove-missing.ensures.below c.args.nodes below c.requires.fits.1)
