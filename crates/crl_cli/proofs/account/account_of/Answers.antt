use Rattle.std.proofs.Common.{sym, subst}
use Rattle.crl_cli.specs.declared.status.Status.{Status}
use Rattle.crl_cli.specs.Outcome.{SaysOf}
use Rattle.crl_cli.proofs.Says as says
use Rattle.crl_cli.proofs.account.account_of.Goals as goal

pub returns : goal.returns
returns c program words is =
    subst (λ (s : Status). SaysOf words s program c.in_ok-text.text.items) (sym c.status_of.ensures)
    (says.account_of program words c.args.ended.now.stuck c.args.ended.now.report c.in_ok-text.text.items is c.in_ok-text.ensures.text c.in_ok-text.ensures.account)
