-- A guard that the last event of a front answers shows the array.
use Rattle.std.proofs.Common.{◌≡◌, List, sym, ap, ◌∙◌, subst}
use Rattle.crl_model.specs.declared.event.Event.{Event}
use Rattle.crl_machine.specs.SingleMachine.{after_all}
use Rattle.std.specs.Prelude.{IfOk}
use Rattle.std.specs.declared.result.Result.{Result}
use Rattle.std.specs.declared.result.Result.TheVariants.{Ok, Err}
use Rattle.crl_model.specs.declared.call.Call.{Call}
use Rattle.crl_model.specs.declared.name.Name.{Name}
use Rattle.crl_protocol.specs.Node.{Answer, Reading, Writing}
use Rattle.crl_protocol.specs.Sections.{Guard}
use Rattle.crl_protocol.specs.World.{step}
use Rattle.crl_rounds.specs.Standing.{machine_of}
use Rattle.crl_history.specs.Legal.{AnswerShows}
use Rattle.crl_history.proofs.Laws.{answers_show, machine_then}
use Rattle.crl_turns.specs.declared.turned.Shape.{Shape}
use Rattle.crl_cluster.specs.Standing.{world_at}
use Rattle.crl_calls.specs.Trails.{Ends}
use Rattle.crl_calls.specs.declared.caller.Caller.{Caller}
use Rattle.crl_calls.specs.declared.faults.CallFault.{CallFault}
use Rattle.crl_calls.specs.Callers.{knows, Tells}
use Rattle.crl_calls.specs.Shown.{machine_at, ShowsArray, AnswerShowsArray}

pub shows_array : (s : Shape) (e : Event) (answer : Answer) (front : List Event) → Ends s e answer front → AnswerShowsArray s front answer
shows_array s e answer front ends =
    let w = world_at s ends.before in
    let after = after_all (machine_at s ends.before) (step e w).entries in
    let at_last : machine_at s front ≡ after = ap (machine_of s.parts s.extra) ends.front_is ∙ machine_then s.parts s.extra ends.before e in
    let shown : AnswerShows after (step e w).answer = answers_show s.parts s.extra ends.before ends.run.enabled e ends.enabled in
    let here : AnswerShows after answer = subst (λ a. AnswerShows after a) (sym ends.answer_is) shown in
    subst (λ t. AnswerShows t answer) (sym at_last) here

pub shown_read : (s : Shape) (c : Call) (old new : Caller) (name : Name) (r : Result Guard CallFault)
    → Tells s c old (λ guard answer. (guard.name ≡ name) × (answer ≡ Reading guard)) r new → IfOk r (λ guard. ShowsArray s (knows new).front guard)
shown_read s c old new name (Ok guard) is = subst (λ a. AnswerShowsArray s (knows new).front a) is.gives.1 (shows_array s _ is.answer (knows new).front is.call.ends)
shown_read s c old new name (Err why) is = tt

pub shown_write : (s : Shape) (c : Call) (old new : Caller) (name : Name) (r : Result Guard CallFault)
    → Tells s c old (λ guard answer. (guard.name ≡ name) × (answer ≡ Writing guard)) r new → IfOk r (λ guard. ShowsArray s (knows new).front guard)
shown_write s c old new name (Ok guard) is = subst (λ a. AnswerShowsArray s (knows new).front a) is.gives.1 (shows_array s _ is.answer (knows new).front is.call.ends)
shown_write s c old new name (Err why) is = tt
