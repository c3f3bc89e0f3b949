use Rattle.std.proofs.Common.{sym, ap, ◌∙◌}
use Rattle.crl_protocol.specs.Calls.{is_gone}
use Rattle.crl_protocol.specs.Lifetimes.{Lifetime}
use Rattle.crl_model.specs.declared.stage.Stage.{Stage}
use Rattle.crl_desk.specs.Desks.{state}
use Rattle.crl_naming.specs.Lives.{lifetime_in_delete}
use Rattle.crl_naming.proofs.Deletes.{own_waits}
use Rattle.crl_naming.proofs.deleting.delete_own.Goals as goal

pub returns-clause-state : goal.returns-clause-state
returns-clause-state c =
    let n = state c.args.desk.now in
    let staged = c.stage_of.ensures ∙ ap (λ (l : Lifetime). l.stage) c.begin.ensures.lifetime in
    own_waits c.args.at c.args.name (lifetime_in_delete c.args.desk.now.me c.args.name n) n (state c.begin.new.desk) (state c.tell_askers.new.desk) _
    (sym (c.is_gone.ensures ∙ ap (λ (s : Stage). is_gone s) staged) ∙ c.if-is_gone.false) c.begin.ensures.state c.begin.ensures.lifetime c.tell_askers.ensures.state
    c.wait.ensures
