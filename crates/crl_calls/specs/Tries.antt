-- What the steps of a call tell, which is tried until it is done or never can be.
use Rattle.std.specs.Prelude.{◌≡◌, ℕ, Bool, true, false}
use Rattle.std.specs.declared.result.Result.{Result}
use Rattle.std.specs.declared.result.Result.TheVariants.{Ok, Err}
use Rattle.crl_model.specs.declared.call.Call.{Call}
use Rattle.crl_model.specs.declared.call.CallKind.{CallKind}
use Rattle.crl_model.specs.declared.event.Event.TheVariants as event
use Rattle.crl_protocol.specs.Node as node
use Rattle.crl_protocol.specs.Node.{Node, Answer, Done}
use Rattle.crl_turns.specs.declared.turned.Shape.{Shape}
use Rattle.crl_turns.specs.declared.view.View.{View}
use Rattle.crl_cluster.specs.declared.faults.StepFault.{StepFault}
use Rattle.crl_cluster.specs.declared.faults.StepFault.TheVariants as step
use Rattle.crl_cluster.specs.declared.faults.TryFault.{TryFault}
use Rattle.crl_cluster.specs.declared.faults.TryFault.TheVariants.{Busy, Nothing, Step}
use Rattle.crl_cluster.specs.Acting.{IsDone}
use Rattle.crl_cluster.specs.Standing.{world_at}
use Rattle.crl_calls.specs.declared.asking.Never.{Never}
use Rattle.crl_calls.specs.declared.asking.Never.TheVariants as never
use Rattle.crl_calls.specs.declared.asking.Told.{Told}
use Rattle.crl_calls.specs.declared.ending.Ended.{Ended}
use Rattle.crl_calls.specs.declared.ending.Ended.TheVariants as ended
use Rattle.crl_calls.specs.declared.faults.CallFault.{CallFault}
use Rattle.crl_calls.specs.declared.faults.CallFault.TheVariants as fault
use Rattle.crl_calls.specs.declared.faults.EndFault.{EndFault}
use Rattle.crl_calls.specs.declared.faults.EndWhy.{EndWhy}
use Rattle.crl_calls.specs.declared.faults.EndWhy.TheVariants as end
use Rattle.crl_calls.specs.Answers.{may_refuse}
use Rattle.crl_calls.specs.Trails.{Moves, MovesToTheEnd, EndsWhere, Does, RunsFull}

-- Why a call that was not made never will be. What else was in its way passes: a turn that is out, a node that isn't free, a
-- count that had moved on.
abbrev pub never_of : TryFault → Result (Unit {0}) Never
never_of (Busy node) = Ok tt
never_of Nothing = Ok tt
never_of (Step step.OutOfMemory) = Err never.OutOfMemory
never_of (Step (step.Moved saw found)) = Ok tt
never_of (Step step.Spent) = Err never.Full

-- what a call tells that gets no answer
abbrev pub IsNever : ℕ → Call → View → Never → View → Type 0
IsNever node c old never.OutOfMemory new = Moves old new
IsNever node c old never.Full new = RunsFull node c old new

abbrev pub is_full : Result Told Never → Bool
is_full (Ok told) = false
is_full (Err never.OutOfMemory) = false
is_full (Err never.Full) = true

-- What a call gives by its answer: its Ok answer by its form, or a refusal that its word may meet.
abbrev pub IsGiven : {Out : Type 0} → (Out → Answer → Type 0) → CallKind → Result Told Never → Result Out CallFault → Type 0
IsGiven gives word (Ok told) (Ok out) = gives out told.answer
IsGiven gives word (Ok told) (Err (fault.Refused why)) = (told.answer ≡ node.Refused why) × (may_refuse word told.later why ≡ true)
IsGiven gives word (Err never.OutOfMemory) (Err fault.OutOfMemory) = Unit {0}
IsGiven gives word (Err never.Full) (Err fault.Spent) = Unit {0}
IsGiven gives word _ _ = ⊥

-- the same of the end of a section by its guard, where the node is held
abbrev pub ended_of : {G : Type 0} → StepFault → G → Ended G
ended_of step.OutOfMemory back = ended.Again back
ended_of (step.Moved saw found) back = ended.Again back
ended_of step.Spent back = ended.Full back

-- The section is ended where the node is held, or by a try: the node before it has one open that the guard ends.
pub record EndsHeld (s : Shape) (node : ℕ) (c : Call) (may_end : Node → Bool) (old new : View) : Type 0 where
  pub does : IsDone s (event.Call node c) old Done new
  pub may : EndsWhere s node may_end (event.Call node c) new.front

pub record DoesEnd (s : Shape) (node : ℕ) (c : Call) (may_end : Node → Bool) (old new : View) : Type 0 where
  pub does : Does s (event.Call node c) old Done new
  pub may : EndsWhere s node may_end (event.Call node c) new.front

-- Why a section is never ended: the node after the front has none open that the guard ends, or the history is full.
abbrev pub IsNeverEnded : Shape → ℕ → (Node → Bool) → View → EndWhy → View → Type 0
IsNeverEnded s node may_end old end.Foreign new = Moves old new × (may_end ((world_at s new.front).nodes node) ≡ false)
IsNeverEnded s node may_end old end.Spent new = MovesToTheEnd old new

-- what a try tells to end a section by its guard
abbrev pub IsEnded : {G : Type 0} → Type 0 → Shape → ℕ → (Node → Bool) → G → View → Ended G → View → Type 0
IsEnded IsItDone s node may_end guard old ended.Done new = IsItDone
IsEnded IsItDone s node may_end guard old (ended.Again back) new = (back ≡ guard) × Moves old new
IsEnded IsItDone s node may_end guard old (ended.Foreign back) new = (back ≡ guard) × IsNeverEnded s node may_end old end.Foreign new
IsEnded IsItDone s node may_end guard old (ended.Full back) new = (back ≡ guard) × IsNeverEnded s node may_end old end.Spent new

abbrev pub stops : EndWhy → Bool
stops end.Foreign = false
stops end.Spent = true

abbrev pub is_full_end : {G : Type 0} → Result (Unit {0}) (EndFault G) → Bool
is_full_end (Ok done) = false
is_full_end (Err back) = stops back.why
