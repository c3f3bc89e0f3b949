use Rattle.std.proofs.Common.{◌∙◌, sym, ap}
use Rattle.crl_desk.specs.Desks.{state, acted}
use Rattle.crl_node.proofs.gathering.hear_whole.Goals as goal

pub returns-clause-state : goal.returns-clause-state
returns-clause-state c = c.hear.ensures.state ∙ ap (acted c.args.at) (sym (c.requires.whole.heard (state c.args.desk.now).inbox))
