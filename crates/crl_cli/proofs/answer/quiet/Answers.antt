use Rattle.std.proofs.Common.{ap}
use Rattle.crl_cli.specs.Outcome.{quietly}
use Rattle.crl_cli.proofs.Says.{answered, asked_so, headline, quiet_order}
use Rattle.crl_cli.proofs.answer.quiet.Goals as goal

pub print-requires : goal.print-requires
print-requires g c = answered c.quiet_outcome.result _ c.quiet_outcome.ensures.comes

pub returns-in-Ok-clause-prints : goal.returns-in-Ok-clause-prints
returns-in-Ok-clause-prints g c = c.print.ensures.prints _ (asked_so c.quiet_outcome.result (quietly c.in-Ok.command) _ (ap quietly c.in-Ok.ensures.command) _ _ _ _ c.quiet_outcome.ensures.comes)

pub returns-in-Ok-clause-headline : goal.returns-in-Ok-clause-headline
returns-in-Ok-clause-headline g c order is =
    headline _ _ _ c.print.result (c.print.ensures.prints _ (asked_so c.quiet_outcome.result (quietly c.in-Ok.command) _ (ap quietly c.in-Ok.ensures.command) _ _ _ _ c.quiet_outcome.ensures.comes)) order (quiet_order _ order is)
