use Rattle.std.proofs.Common.{List, ℕ, sym, subst}
use Rattle.crl_machine.specs.SingleMachine.{start}
use Rattle.crl_account.specs.Account.{lines_of, IsAccount}
use Rattle.crl_account.proofs.Laws.{written_lines}
use Rattle.crl_check.proofs.Texts.{text_legal, text_illegal, text_bad, text_only}
use Rattle.crl_check.proofs.check_account.Goals as goal

pub returns-clause-legal : goal.returns-clause-legal
returns-clause-legal c = text_legal (start c.args.nodes) c.args.text.now c.judge_text.result c.judge_text.ensures

pub returns-clause-illegal : goal.returns-clause-illegal
returns-clause-illegal c = text_illegal (start c.args.nodes) c.args.text.now c.judge_text.result c.judge_text.ensures

pub returns-clause-bad : goal.returns-clause-bad
returns-clause-bad c = text_bad (start c.args.nodes) c.args.text.now c.judge_text.result c.judge_text.ensures

pub returns-clause-only : goal.returns-clause-only
returns-clause-only c = text_only (start c.args.nodes) c.args.text.now c.judge_text.result c.judge_text.ensures

pub returns-clause-written : goal.returns-clause-written
returns-clause-written c = λ entries behind can others e.
    text_only (start c.args.nodes) c.args.text.now c.judge_text.result c.judge_text.ensures entries
    (subst (λ (t : List ℕ). IsAccount (lines_of t) entries) (sym e) (written_lines entries behind can others))
