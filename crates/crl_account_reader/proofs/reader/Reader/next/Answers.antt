use Rattle.std.proofs.Common.{arith}
use Rattle.std.proofs.lemmas.Result.{err_from_is_err_and}
use Rattle.crl_account_reader.proofs.Readers.{given_whole, gives_fault, gives_none}
use Rattle.crl_account_reader.proofs.reader.Reader.next.Goals as goal

pub loop-self-init : goal.loop-self-init
loop-self-init c = record { given = λ text given h. h; fewer = omega arith }

pub returns-in_err-entry-clause-gave : goal.returns-in_err-entry-clause-gave
returns-in_err-entry-clause-gave c = λ text given h.
    let p = err_from_is_err_and c.from_residual.result c.from_residual.ensures.1 in
    rw (p.1, p.2) (gives_fault text given c.in_err-entry.field-0.0 c.next_line.new.self (c.in_err-entry.ensures.gave text given (c.loop-self.invariant.given text given h)))

pub returns-in-Some-clause-gave : goal.returns-in-Some-clause-gave
returns-in-Some-clause-gave c = λ text given h.
    rw c.in-Some.is at (c.in_ok-entry.ensures.gave text given (c.loop-self.invariant.given text given h))

pub returns-in-Some-clause-fewer : goal.returns-in-Some-clause-fewer
returns-in-Some-clause-fewer c = omega (arith, c.in_ok-entry.ensures.fewer, c.loop-self.invariant.fewer)

pub loop-self-preserved : goal.loop-self-preserved
loop-self-preserved c = record {
  given = λ text given h. gives_none text given c.next_line.new.self (rw c.in_default.is at (c.in_ok-entry.ensures.gave text given (c.loop-self.invariant.given text given h)));
  fewer = omega (arith, c.in_ok-entry.ensures.fewer, c.loop-self.invariant.fewer);
}

pub returns-clause-gave : goal.returns-clause-gave
returns-clause-gave c = λ text given h.
    let now = c.loop-self.invariant.given text given h in (now, given_whole text given c.loop-self.self now (c.is_done.ensures.0 c.loop-self-test.false))
