use Rattle.std.proofs.Common.{ap, refl, Err}
use Rattle.crl_commands.specs.declared.command.Command.TheVariants as command
use Rattle.crl_cli.proofs.Says.{fault_comes, said_comes}
use Rattle.crl_cli.proofs.threads.threads_outcome.Goals as goal

pub returns-in-Ok-clause-comes : goal.returns-in-Ok-clause-comes
returns-in-Ok-clause-comes g c =
    said_comes c.threads_text.result _ (command.Threads c.args.workers) c.as_slice.result.now refl refl
    (rw c.as_slice.ensures.value (record { taken = c.in-Ok.ensures.taken; whole = c.in-Ok.ensures.whole })) c.threads_text.ensures

pub returns-in-Err-Failed-clause-comes : goal.returns-in-Err-Failed-clause-comes
returns-in-Err-Failed-clause-comes g c =
    fault_comes c.read_fault.result _ (command.Threads c.args.workers) refl refl (c.in-Err-Failed.ensures.cause (ap Err c.in-Err-Failed.field-0-is)) c.read_fault.ensures.status c.read_fault.ensures.text
