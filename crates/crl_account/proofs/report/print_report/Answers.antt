use Rattle.crl_account.proofs.Printed.{text_is_account}
use Rattle.crl_account.proofs.report.print_report.Goals as goal

pub returns-clause-account : goal.returns-clause-account
returns-clause-account c = text_is_account c.print_lines.result (λ t. t.items) c.args.report.now c.meet_numbers.ensures c.print_lines.ensures
