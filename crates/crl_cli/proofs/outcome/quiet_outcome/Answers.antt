use Rattle.std.proofs.Common.{ap, sym, ◌∙◌, Err}
use Rattle.crl_cli.proofs.Says.{usage_comes, fault_comes, said_comes, made_comes}
use Rattle.crl_cli.proofs.outcome.quiet_outcome.Goals as goal

pub returns-in_default-clause-comes : goal.returns-in_default-clause-comes
returns-in_default-clause-comes g c = usage_comes c.usage.result _ (sym c.quietly.ensures.command ∙ c.in_default.is) c.usage.ensures.status c.usage.ensures.text

pub returns-then-not-does_read-clause-comes : goal.returns-then-not-does_read-clause-comes
returns-then-not-does_read-clause-comes g c =
    made_comes c.say.result _ c.in-Some.command (sym c.quietly.ensures.command ∙ c.in-Some.is) (sym c.does_read.ensures ∙ c.if-not-does_read.true) c.say.ensures

pub returns-in-Ok-clause-comes : goal.returns-in-Ok-clause-comes
returns-in-Ok-clause-comes g c =
    said_comes c.say-in-Ok.result _ c.in-Some.command c.as_slice.result.now (sym c.quietly.ensures.command ∙ c.in-Some.is) (sym c.does_read.ensures ∙ c.if-not-does_read.false)
    (rw c.as_slice.ensures.value (record { taken = c.in-Ok.ensures.taken; whole = rw (sym c.limit_of.ensures) c.in-Ok.ensures.whole })) c.say-in-Ok.ensures

pub returns-in-Err-Failed-clause-comes : goal.returns-in-Err-Failed-clause-comes
returns-in-Err-Failed-clause-comes g c =
    fault_comes c.read_fault.result _ c.in-Some.command (sym c.quietly.ensures.command ∙ c.in-Some.is) (sym c.does_read.ensures ∙ c.if-not-does_read.false)
    (c.in-Err-Failed.ensures.cause (ap Err c.in-Err-Failed.field-0-is)) c.read_fault.ensures.status c.read_fault.ensures.text
