use Rattle.crl_cli.proofs.Says.{answered, headline, some_headline}
use Rattle.crl_cli.proofs.answer.top.Goals as goal

pub print-requires : goal.print-requires
print-requires g c = answered c.outcome_of.result _ c.outcome_of.ensures.comes

pub returns-clause-headline : goal.returns-clause-headline
returns-clause-headline g c = headline _ _ _ c.print.result (c.print.ensures.prints _ c.outcome_of.ensures.comes)

pub returns-clause-threads : goal.returns-clause-threads
returns-clause-threads g c = some_headline _ _ _ c.print.result (c.print.ensures.prints _ c.outcome_of.ensures.comes)

pub returns-clause-prints : goal.returns-clause-prints
returns-clause-prints g c = c.print.ensures.prints _ c.outcome_of.ensures.comes
