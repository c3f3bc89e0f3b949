use Rattle.std.proofs.Common.{sym, ap, ◌∙◌}
use Rattle.std.specs.Option.{is_some}
use Rattle.crl_calls.proofs.Ended.{closes_as}
use Rattle.crl_calls.proofs.ending.may_close.Goals as goal

pub returns : goal.returns
returns g c after = closes_as (g.N.Member.state c.args.node.now) c.args.name c.is_none.result (ap is_some (sym c.verdict.ensures) ∙ c.is_none.ensures) after
