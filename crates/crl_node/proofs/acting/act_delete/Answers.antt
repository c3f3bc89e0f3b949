use Rattle.std.proofs.Common.{refl}
use Rattle.crl_protocol.specs.Calls as calls
use Rattle.crl_node.proofs.Acts.{act_done}
use Rattle.crl_node.proofs.acting.act_delete.Goals as goal

pub returns : goal.returns
unfolding calls.takes_call
returns c = act_done _ _ _ _ _ (calls.deletes c.args.name) _ _ c.requires.allowed refl (λ m. refl) c.delete-answer.ensures.state c.delete-answer.ensures.answer refl c.delete-answer.ensures.room
