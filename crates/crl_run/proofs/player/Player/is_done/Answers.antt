use Rattle.std.proofs.Common.{◌∙◌, ap, drop}
use Rattle.crl_protocol.specs.Home.{is_empty}
use Rattle.crl_run.specs.PlayerState.{PlayerState}
use Rattle.crl_run.proofs.Holding.{is_over}
use Rattle.crl_run.proofs.player.Player.is_done.Goals as goal

pub returns : goal.returns
returns c = is_over c.args.statements.now c.self.inside.place ∙ ap (λ (s : PlayerState). is_empty (drop s.place c.args.statements.now)) c.self.view_is
