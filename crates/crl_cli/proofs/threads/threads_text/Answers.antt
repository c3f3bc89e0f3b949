use Rattle.crl_protocol.specs.Chosen.{always_first}
use Rattle.crl_cli.proofs.Says.{bad_says, some_bytes}
use Rattle.crl_cli.proofs.threads.threads_text.Goals as goal

pub returns-in_ok-ended-in-Ok : goal.returns-in_ok-ended-in-Ok
returns-in_ok-ended-in-Ok g c =
    some_bytes c.account_of.result c.args.bytes.now c.in-Ok.script c.in_ok-ended-in-Ok.ensures.0 c.in-Ok.ensures (c.account_of.ensures c.in-Ok.script c.in_ok-ended-in-Ok.ensures.0 c.in_ok-ended-in-Ok.ensures.1)

pub returns-in-Err-Bad : goal.returns-in-Err-Bad
returns-in-Err-Bad g c = (always_first, rw c.in-Err-Bad.field-0-is (bad_says always_first c.args.bytes.now c.in-Err-Bad.outcome (rw c.in-Err-Bad.field-0-is at c.in-Err-Bad.ensures)))
