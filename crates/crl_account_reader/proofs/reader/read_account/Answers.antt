use Rattle.std.proofs.Common.{List, ℕ, sym, subst}
use Rattle.std.proofs.lemmas.Result.{err_from_is_err_and}
use Rattle.crl_account.specs.Account.{lines_of, IsAccount}
use Rattle.crl_account.proofs.Laws.{written_lines}
use Rattle.crl_account_reader.proofs.Readers.{fault_only, fault_bad}
use Rattle.crl_account_reader.proofs.reader.read_account.Goals as goal

pub returns-in_err-entry-clause-only : goal.returns-in_err-entry-clause-only
returns-in_err-entry-clause-only c =
    let p = err_from_is_err_and c.from_residual.result c.from_residual.ensures.1 in
    rw (p.1, p.2) (fault_only c.args.text.now c.loop-reader.entries.items c.in_err-entry.field-0.0 c.next.new.self (c.in_err-entry.ensures.gave c.args.text.now c.loop-reader.entries.items c.loop-reader.invariant))

pub returns-in_err-entry-clause-written : goal.returns-in_err-entry-clause-written
returns-in_err-entry-clause-written c = λ entries behind can others e.
    returns-in_err-entry-clause-only c entries (subst (λ (t : List ℕ). IsAccount (lines_of t) entries) (sym e) (written_lines entries behind can others))

pub returns-in_err-entry-clause-bad : goal.returns-in_err-entry-clause-bad
returns-in_err-entry-clause-bad c =
    let p = err_from_is_err_and c.from_residual.result c.from_residual.ensures.1 in λ line e.
    fault_bad c.args.text.now c.loop-reader.entries.items c.in_err-entry.field-0.0 c.next.new.self (c.in_err-entry.ensures.gave c.args.text.now c.loop-reader.entries.items c.loop-reader.invariant) line
    (let same = p.1 in let fault = p.2 in cc)

pub returns-clause-account : goal.returns-clause-account
returns-clause-account c = (rw c.in_default.is at (c.in_ok-entry.ensures.gave c.args.text.now c.loop-reader.entries.items c.loop-reader.invariant)).1.account

pub returns-clause-only : goal.returns-clause-only
returns-clause-only c = λ entries is.
    sym ((rw c.in_default.is at (c.in_ok-entry.ensures.gave c.args.text.now c.loop-reader.entries.items c.loop-reader.invariant)).1.only entries is)

pub returns-clause-written : goal.returns-clause-written
returns-clause-written c = λ entries behind can others e.
    returns-clause-only c entries (subst (λ (t : List ℕ). IsAccount (lines_of t) entries) (sym e) (written_lines entries behind can others))
