use Rattle.std.proofs.Common.{sym, ◌∙◌, arith}
use Rattle.crl_script.proofs.TextLemmas.{words_none}
use Rattle.crl_script.proofs.line.next_word.Goals as goal

pub returns : goal.returns
returns c = sym c.loop-rest.invariant ∙ words_none c.loop-rest.rest.now (grind arith)
