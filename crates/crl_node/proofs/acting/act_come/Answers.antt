use Rattle.std.proofs.Common.{refl, ap, subst}
use Rattle.crl_model.specs.declared.call.Call.TheVariants.{Come}
use Rattle.crl_protocol.specs.Calls as calls
use Rattle.crl_node.specs.Calling.{ComesWith}
use Rattle.crl_node.proofs.Acts.{act_done}
use Rattle.crl_node.proofs.acting.act_come.Goals as goal

pub returns : goal.returns
unfolding calls.takes_call
returns c =
    act_done _ _ _ _ _ (calls.comes c.args.part) _ _ c.requires.allowed refl (λ m. refl) c.come-answer.ensures.state c.come-answer.ensures.answer
    (ap Come (subst (λ kit. ComesWith c.args.part kit c.args.desk.now) c.in-Come.is c.requires.ready).0) c.come-answer.ensures.room
