use Rattle.std.proofs.Common.{subst, sym}
use Rattle.crl_cli.specs.Outcome.{too_long, unread}
use Rattle.crl_cli.specs.Reading.{IsUnread}
use Rattle.crl_cli.proofs.Says.{unread_bytes}
use Rattle.crl_cli.proofs.account.script_of.Goals as goal

pub returns-then-bytes-gt-SCRIPT_LIMIT : goal.returns-then-bytes-gt-SCRIPT_LIMIT
returns-then-bytes-gt-SCRIPT_LIMIT c =
    subst (λ u. IsUnread c.args.bytes.now u) (sym c.unread_for.ensures)
    (unread_bytes c.bad_script.result _ _ (too_long c.if-bytes-gt-SCRIPT_LIMIT.true) c.bad_script.ensures.status c.bad_script.ensures.text)

pub returns-in-Ok : goal.returns-in-Ok
returns-in-Ok c = record { within = c.if-bytes-gt-SCRIPT_LIMIT.false; reads = c.in-Ok.ensures }

pub returns-in-Err-Bad : goal.returns-in-Err-Bad
returns-in-Err-Bad c =
    subst (λ u. IsUnread c.args.bytes.now u) (sym c.unread_for-in-Err-Bad.ensures)
    (unread_bytes c.bad_script-in-Err-Bad.result _ _
    (unread (record { line = c.in-Err-Bad.line; why = c.in-Err-Bad.why }) c.if-bytes-gt-SCRIPT_LIMIT.false (rw c.in-Err-Bad.field-0-is at c.in-Err-Bad.ensures))
    c.bad_script-in-Err-Bad.ensures.status (rw c.why_of.ensures at c.bad_script-in-Err-Bad.ensures.text))
