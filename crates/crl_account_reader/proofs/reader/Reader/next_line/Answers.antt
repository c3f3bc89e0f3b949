use Rattle.std.proofs.Common.{sym, subst}
use Rattle.crl_account_reader.specs.Unread.{Unread}
use Rattle.crl_account_reader.specs.Reader.{HasGiven}
use Rattle.crl_account_reader.proofs.Readers.{given_line, given_broken}
use Rattle.crl_account_reader.proofs.reader.Reader.next_line.Goals as goal

pub returns-in-Ok-clause-gave : goal.returns-in-Ok-clause-gave
returns-in-Ok-clause-gave c = λ text given h.
    let old : Unread = record { bytes = c.self.inside.rest.now; number = c.self.inside.number; stage = c.self.inside.stage } in
    given_line text given old c.cut_line.result.0.now c.cut_line.result.1.now c.in-Ok.stage c.in-Ok.entry (subst (λ (u : Unread). HasGiven text given u) (sym c.self.view_is) h)
    c.cut_line.ensures.lines c.cut_line.ensures.shorter c.in-Ok.ensures.ok

pub returns-in-Err-Bad-clause-gave : goal.returns-in-Err-Bad-clause-gave
returns-in-Err-Bad-clause-gave c = λ text given h.
    let old : Unread = record { bytes = c.self.inside.rest.now; number = c.self.inside.number; stage = c.self.inside.stage } in
    let before : HasGiven text given old = subst (λ (u : Unread). HasGiven text given u) (sym c.self.view_is) h in (
      before,
      given_broken text given old c.cut_line.result.0.now c.cut_line.result.1.now before c.cut_line.ensures.lines (c.in-Err-Bad.ensures.bad (let fault = c.in-Err-Bad.field-0-is in cc)),
    )
