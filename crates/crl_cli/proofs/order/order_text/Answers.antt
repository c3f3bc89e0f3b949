use Rattle.crl_order.specs.Words.{words_to_come}
use Rattle.crl_cli.proofs.Says.{bad_says, read_bytes}
use Rattle.crl_cli.proofs.order.order_text.Goals as goal

pub returns-in-Ok : goal.returns-in-Ok
returns-in-Ok c = read_bytes c.account_of.result (words_to_come c.args.order) c.args.bytes.now c.in-Ok.script c.in-Ok.ensures (c.account_of.ensures c.in-Ok.script (words_to_come c.args.order) c.in_ok-ended-in-Ok.ensures)

pub returns-in-Err-Bad : goal.returns-in-Err-Bad
returns-in-Err-Bad c = rw c.in-Err-Bad.field-0-is (bad_says (words_to_come c.args.order) c.args.bytes.now c.in-Err-Bad.outcome (rw c.in-Err-Bad.field-0-is at c.in-Err-Bad.ensures))
