use Rattle.std.proofs.Common.{ap, sym, ◌∙◌, ◌∷◌, List, ℕ}
use Rattle.crl_account.specs.Account.{lines_of}
use Rattle.crl_account.proofs.Laws.{lines_some}
use Rattle.crl_account_reader.proofs.Parts.{lines_last, nothing_left}
use Rattle.crl_account_reader.proofs.read.cut_line.Goals as goal

pub returns-in-Some-clause-lines : goal.returns-in-Some-clause-lines
returns-in-Some-clause-lines c = lines_some c.args.text.now c.cut.result.0.now c.in-Some.after.now (rw c.in-Some.is at c.cut.ensures.first)

pub returns-in-None-clause-lines : goal.returns-in-None-clause-lines
returns-in-None-clause-lines c =
    lines_last c.args.text.now c.cut.result.0.now c.requires (rw c.in-None.is at c.cut.ensures.first)
    ∙ ap (λ (t : List ℕ). c.cut.result.0.now ∷ lines_of t) (sym (nothing_left c.args.text.now))
