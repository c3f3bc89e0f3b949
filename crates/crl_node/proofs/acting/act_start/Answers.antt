use Rattle.std.proofs.Common.{◌∙◌, refl}
use Rattle.crl_protocol.specs.Sectioning.{starts}
use Rattle.crl_node.proofs.Acts.{act_done, start_taken, start_noted}
use Rattle.crl_node.proofs.acting.act_start.Goals as goal

pub returns : goal.returns
returns c = act_done _ _ _ _ _ (starts c.args.write c.args.name) _ _ c.requires.allowed refl (start_taken c.args.write c.args.name) c.start-answer.ensures.state c.start-answer.ensures.answer (c.call_to_start-noted.ensures ∙ start_noted c.args.write c.args.name) c.start-answer.ensures.room
