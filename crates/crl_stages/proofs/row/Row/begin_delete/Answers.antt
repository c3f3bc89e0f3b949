use Rattle.std.proofs.Common.{sym, ◌∙◌}
use Rattle.crl_stages.proofs.Deletes.{done_at_once, begun_now}
use Rattle.crl_stages.proofs.row.Row.begin_delete.Goals as goal

pub returns-then-is_empty-clause-lifetime : goal.returns-then-is_empty-clause-lifetime
returns-then-is_empty-clause-lifetime c =
    let row = c.args.self in done_at_once c.args.nodes c.args.deleter row.asked row.missing row.stage (sym c.is_empty.ensures ∙ c.if-is_empty.true)

pub returns-clause-lifetime : goal.returns-clause-lifetime
returns-clause-lifetime c =
    let row = c.args.self in begun_now c.args.nodes c.args.deleter row.asked row.missing row.stage (sym c.is_empty.ensures ∙ c.if-is_empty.false) c.requires.fits.0
