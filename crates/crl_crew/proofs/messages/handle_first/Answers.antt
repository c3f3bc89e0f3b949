use Rattle.crl_crew.proofs.Quiet.{handled_quiet}
use Rattle.crl_crew.proofs.messages.handle_first.Goals as goal

pub returns-in-Ok : goal.returns-in-Ok
returns-in-Ok g c =
    handled_quiet g.N.Member.state c.args.nodes.now c.args.pass.now c.args.held.now c.handle.new.pass c.handle.new.held 0 c.requires.held c.handle.ensures.here c.handle.ensures.held c.in-Ok.ensures.told
