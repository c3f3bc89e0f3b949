use Rattle.std.proofs.Common.{sym}
use Rattle.crl_script.proofs.TextLemmas.{line_last, line_more}
use Rattle.crl_script.proofs.line.next_line.Goals as goal

pub returns-in-None-clause-lines : goal.returns-in-None-clause-lines
returns-in-None-clause-lines c = line_last c.args.text.now c.requires (sym c.in-None.ensures)

pub returns-in-Some-clause-lines : goal.returns-in-Some-clause-lines
returns-in-Some-clause-lines c = rw c.without_return.ensures (line_more c.args.text.now c.in-Some.at (sym c.in-Some.ensures))
