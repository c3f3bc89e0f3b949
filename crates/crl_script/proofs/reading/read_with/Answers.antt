use Rattle.std.proofs.Common.{◌≡◌, [], sym, arith}
use Rattle.crl_script.specs.Sentence.{read_by}
use Rattle.crl_script.specs.Text.{lines_of}
use Rattle.crl_script.proofs.PlainRun.{text_made}
use Rattle.crl_script.proofs.TextLemmas.{line_none}
use Rattle.crl_script.proofs.reading.read_with.Goals as goal

pub returns-clause-read : goal.returns-clause-read
unfolding read_by
returns-clause-read c =
    let none : lines_of c.loop-rest.rest.now ≡ [] = line_none c.loop-rest.rest.now (grind arith) in
    sym (rw none at c.loop-rest.invariant.read)

pub returns-clause-statements : goal.returns-clause-statements
returns-clause-statements c = text_made _ c.args.text.now _ (returns-clause-read c)
