use Rattle.std.proofs.Common.{◌∙◌, ap, ◌++◌}
use Rattle.crl_run.specs.Players.{guards_given}
use Rattle.crl_crew.proofs.Quiet.{collected_stays}
use Rattle.crl_crew.proofs.messages.take_answer.Goals as goal

pub returns-in-Ok : goal.returns-in-Ok
returns-in-Ok g c =
    collected_stays g.N.Member.state c.args.nodes.now c.args.pass.now c.args.held.now c.collect.new.pass c.collect.new.held c.args.player.now c.keep.new.self c.in-Ok.answer c.requires.held c.collect.ensures.here c.collect.ensures.held
    c.in-Ok.ensures.told (c.keep.ensures.place ∙ c.reserve.ensures.place) (c.keep.ensures.guards ∙ ap (λ gs. guards_given c.in-Ok.answer ++ gs) c.reserve.ensures.guards)
