use Rattle.crl_outbox.proofs.Taking.{took}
use Rattle.crl_outbox.proofs.mailbox.Mailbox.take.Goals as goal

pub returns-clause-taken : goal.returns-clause-taken
returns-clause-taken c = rw (← c.self.view_is, c.remove.ensures.items) (took c.self.inside.held.items c.args.place c.remove.result c.remove.ensures.value (rw (← c.self.view_is) at c.requires))
