use Rattle.crl_world.proofs.Fresh.{first_more}
use Rattle.crl_world.proofs.starting.new_members.Goals as goal

pub loop-me-preserved : goal.loop-me-preserved
loop-me-preserved g c =
    first_more g.N.Member.state c.loop-me.members.items c.push.new.self.items c.in_ok-new.field-0 c.args.nodes c.args.capacity c.loop-me.me c.in_ok-push.ensures.items c.loop-me.invariant c.in_ok-new.ensures
