-- What a guard shows.
use Rattle.std.specs.Prelude.{◌≡◌, List}
use Rattle.crl_model.specs.declared.event.Event.{Event}
use Rattle.crl_machine.specs.SingleMachine.{State}
use Rattle.crl_protocol.specs.Node.{Answer}
use Rattle.crl_protocol.specs.Sections.{Guard}
use Rattle.crl_rounds.specs.Standing.{machine_of}
use Rattle.crl_history.specs.Legal.{AnswerShows}
use Rattle.crl_turns.specs.declared.turned.Shape.{Shape}

-- the single machine after the account of a history
abbrev pub machine_at : Shape → List Event → State
machine_at s front = machine_of s.parts s.extra front

-- The guard has the bytes of the single machine's array after the account of this history.
abbrev pub ShowsArray : Shape → List Event → Guard → Type 0
ShowsArray s front guard = guard.bytes ≡ (machine_at s front).bytes guard.name

abbrev pub AnswerShowsArray : Shape → List Event → Answer → Type 0
AnswerShowsArray s front answer = AnswerShows (machine_at s front) answer
