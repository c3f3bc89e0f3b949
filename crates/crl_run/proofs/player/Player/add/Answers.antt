use Rattle.std.proofs.Common.{◌∙◌, ap}
use Rattle.crl_protocol.specs.Chosen.{with_sum}
use Rattle.crl_run.specs.PlayerState.{PlayerState}
use Rattle.crl_run.specs.Players.{guards_with}
use Rattle.crl_run.proofs.Holding.{written}
use Rattle.crl_run.proofs.player.Player.add.Goals as goal

pub returns-clause-guards : goal.returns-clause-guards
returns-clause-guards c =
    written c.args.name c.self.inside.guards.items c.in-Some.place (with_sum c.args.offset c.args.number) c.index_mut.result.now c.add.new.self c.in-Some.ensures c.index_mut.ensures.value c.add.ensures
    ∙ ap (λ (s : PlayerState). guards_with c.args.name (with_sum c.args.offset c.args.number) s.guards) c.self.view_is
