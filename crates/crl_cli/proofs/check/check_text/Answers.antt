use Rattle.std.proofs.Common.{ap, arith, Err}
use Rattle.crl_cli.specs.Outcome.{account_too_long, bad_line}
use Rattle.crl_cli.proofs.Says.{bad_account_bytes, legal_bytes, illegal_bytes}
use Rattle.crl_cli.proofs.check.check_text.Goals as goal

pub returns-then-len-gt-ACCOUNT_LIMIT : goal.returns-then-len-gt-ACCOUNT_LIMIT
returns-then-len-gt-ACCOUNT_LIMIT c = bad_account_bytes c.bad_account.result _ _ _ (account_too_long c.if-len-gt-ACCOUNT_LIMIT.true) c.bad_account.ensures.status c.bad_account.ensures.text

pub returns-in-Ok : goal.returns-in-Ok
returns-in-Ok c = legal_bytes c.legal.result _ _ c.if-len-gt-ACCOUNT_LIMIT.false c.in-Ok.ensures.legal c.legal.ensures.status c.legal.ensures.text

pub prove-unreachable-requires : goal.prove-unreachable-requires
prove-unreachable-requires c =
    let inside = (c.in-Err-Illegal.ensures.illegal c.in-Err-Illegal.place (ap Err c.in-Err-Illegal.field-0-is)).inside in
    omega (arith, inside, c.if-prove.true)

pub returns-in-Err-Illegal : goal.returns-in-Err-Illegal
returns-in-Err-Illegal c =
    illegal_bytes c.illegal.result _ _ c.in-Err-Illegal.place c.if-len-gt-ACCOUNT_LIMIT.false (c.in-Err-Illegal.ensures.illegal c.in-Err-Illegal.place (ap Err c.in-Err-Illegal.field-0-is))
    c.illegal.ensures.status c.illegal.ensures.text

pub returns-in-Err-BadLine : goal.returns-in-Err-BadLine
returns-in-Err-BadLine c =
    bad_account_bytes c.bad_account-in-Err-BadLine.result _ _ _
    (bad_line c.in-Err-BadLine.line c.if-len-gt-ACCOUNT_LIMIT.false (c.in-Err-BadLine.ensures.bad c.in-Err-BadLine.line (ap Err c.in-Err-BadLine.field-0-is)))
    c.bad_account-in-Err-BadLine.ensures.status c.bad_account-in-Err-BadLine.ensures.text
