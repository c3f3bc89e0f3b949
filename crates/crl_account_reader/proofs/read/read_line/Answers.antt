use Rattle.std.proofs.Common.{Err, Some, ap, sym, subst, IsTrue}
use Rattle.std.proofs.lemmas.Result.{err_from_is_err_and}
use Rattle.crl_account.specs.declared.line.Line.{Line}
use Rattle.crl_account.specs.Account.{IsLine}
use Rattle.crl_account_reader.proofs.Lines.{gives_line, guessed_is}
use Rattle.crl_account_reader.proofs.read.read_line.Goals as goal

pub returns-in_err-line-clause-only : goal.returns-in_err-line-clause-only
returns-in_err-line-clause-only c =
    let p = err_from_is_err_and c.from_residual.result c.from_residual.ensures.1 in
    rw (p.1, p.2) (gives_line (Err c.in_err-line.field-0.0) c.args.text.now c.in_err-line.ensures)

pub returns-then-branch-clause-only : goal.returns-then-branch-clause-only
returns-then-branch-clause-only c = λ line is. ap (λ (l : Line). Some l) (sym (guessed_is c.in_ok-line.line line c.args.text.now c.in_ok-line.ensures is))

pub returns-else-branch-clause-only : goal.returns-else-branch-clause-only
returns-else-branch-clause-only c = λ line is.
    let same = guessed_is c.in_ok-line.line line c.args.text.now c.in_ok-line.ensures is in
    let yes : IsTrue c.in_ok-is_line.field-0 = c.in_ok-is_line.ensures.1 (subst (λ (l : Line). IsLine l c.args.text.now) (sym same) is) in
    let no = c.if-branch.false in absurd cc
