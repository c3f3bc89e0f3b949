use Rattle.std.proofs.Common.{◌∙◌, ap}
use Rattle.crl_model.specs.Patches.{put_at}
use Rattle.crl_run.specs.PlayerState.{PlayerState}
use Rattle.crl_run.specs.Players.{guards_with}
use Rattle.crl_run.proofs.Holding.{written}
use Rattle.crl_run.proofs.player.Player.put.Goals as goal

pub returns-clause-guards : goal.returns-clause-guards
returns-clause-guards c =
    written c.args.name c.self.inside.guards.items c.in-Some.place (put_at c.args.offset c.args.bytes.now) c.index_mut.result.now c.put.new.self c.in-Some.ensures c.index_mut.ensures.value c.put.ensures
    ∙ ap (λ (s : PlayerState). guards_with c.args.name (put_at c.args.offset c.args.bytes.now) s.guards) c.self.view_is
