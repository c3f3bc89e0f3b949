use Rattle.std.proofs.Common.{sym}
use Rattle.crl_script.proofs.TextLemmas.{word_last, word_more}
use Rattle.crl_script.proofs.line.first_word.Goals as goal

pub returns-in-None : goal.returns-in-None
returns-in-None c = word_last c.args.bytes.now c.requires.some c.requires.word (sym c.in-None.ensures)

pub returns-in-Some : goal.returns-in-Some
returns-in-Some c = word_more c.args.bytes.now c.in-Some.at c.requires.some c.requires.word (sym c.in-Some.ensures)
