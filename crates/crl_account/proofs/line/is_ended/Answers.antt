use Rattle.crl_account.proofs.Held.{ended}
use Rattle.crl_account.proofs.line.is_ended.Goals as goal

pub returns-then-last-eq10 : goal.returns-then-last-eq10
returns-then-last-eq10 c = ended c.args.text.now c.args.written.now c.in-Some.front.now c.in-Some.last.now c.eq.result c.in-Some.ensures.cases.0 c.if-last-eq10.true c.eq.ensures
