-- What the calls of a program tell.
use Rattle.std.specs.Prelude.{◌≡◌, ℕ, ◌<◌, ◌^◌, Bool, true, false, ◌&&◌, List, [], length, slice_get, Some, MatchResult}
use Rattle.std.specs.declared.option.Option.{Option}
use Rattle.std.specs.declared.option.Option.TheVariants.{None}
use Rattle.std.specs.declared.result.Result.{Result}
use Rattle.crl_model.specs.declared.call.Call.{Call}
use Rattle.crl_model.specs.declared.call.Call.TheVariants as call
use Rattle.crl_model.specs.declared.call.Refusal.{Refusal}
use Rattle.crl_model.specs.declared.event.Event.TheVariants as event
use Rattle.crl_protocol.specs.Node.{Node, Answer, Done, Refused}
use Rattle.crl_protocol.specs.Sections.{Guard}
use Rattle.crl_protocol.specs.Verdict.{verdict, word_of}
use Rattle.crl_member.specs.Fitting.{fits_reading, fits_writing}
use Rattle.crl_turns.specs.declared.turned.Shape.{Shape}
use Rattle.crl_turns.specs.declared.view.View.{View}
use Rattle.crl_turns.specs.Closing.{HoldsNone}
use Rattle.crl_world.specs.Starting.{AreSomeNodes}
use Rattle.crl_cluster.specs.declared.cluster.Cluster.{Cluster}
use Rattle.crl_cluster.specs.Clusters.{view_of, shape_of, node_count, IsOf}
use Rattle.crl_cluster.specs.Standing.{world_at}
use Rattle.crl_cluster.specs.Starting.{shape_with}
use Rattle.crl_calls.specs.declared.caller.Caller.{Caller}
use Rattle.crl_calls.specs.declared.faults.CallFault.{CallFault}
use Rattle.crl_calls.specs.declared.faults.CallFault.TheVariants as fault
use Rattle.crl_calls.specs.declared.faults.EndFault.{EndFault}
use Rattle.crl_calls.specs.declared.faults.EndWhy.{EndWhy}
use Rattle.crl_calls.specs.declared.faults.EndWhy.TheVariants as end
use Rattle.crl_calls.specs.Answers.{may_refuse}
use Rattle.crl_calls.specs.Trails.{Moves, MovesToTheEnd, AnswersCall, EndsWhere, RunsFull}

-- what a caller knows and did
abbrev pub knows : Caller → View
knows who = view_of who.pass

-- The caller is of this cluster and of one of its nodes, and holds no turn. Where it is spent its front has 2^62 events.
pub record IsCallerOf {N T A B : Type 0} (cluster : Cluster N T A B) (who : Caller) : Type 0 where
  pub here : IsOf cluster who.pass
  pub inside : who.node < node_count cluster
  pub idle : HoldsNone (knows who)
  pub full : who.spent ≡ true → length (knows who).front ≡ 2 ^ 62

-- It is of this node, and knows of no event.
pub record IsNewCaller {N T A B : Type 0} (cluster : Cluster N T A B) (node : ℕ) (who : Caller) : Type 0 where
  pub number : who.node ≡ node
  pub caller : IsCallerOf cluster who
  pub front : (knows who).front ≡ []
  pub own : (knows who).own ≡ []
  pub tried : (knows who).tried ≡ []
  pub lasts : who.spent ≡ false

-- So many of them, by number.
pub record AreNewCallers {N T A B : Type 0} (cluster : Cluster N T A B) (many : ℕ) (callers : List Caller) : Type 0 where
  pub count : length callers ≡ many
  pub each : (i : ℕ) (who : Caller) → slice_get callers i ≡ Some who → IsNewCaller cluster i who

-- A cluster with a caller for each node.
pub record HasCallers {N T A B : Type 0} (nodes capacity : ℕ) (cluster : Cluster N T A B) (callers : List Caller) : Type 0 where
  pub some : AreSomeNodes nodes
  pub shape : shape_of cluster ≡ shape_with nodes capacity
  pub new : AreNewCallers cluster nodes callers

-- It is of the same node, and isn't spent.
pub record StaysAwake (old new : Caller) : Type 0 where
  pub node : new.node ≡ old.node
  pub before : old.spent ≡ false
  pub after : new.spent ≡ false

-- The call was answered by its node: by an answer that is given so, which was collected or not.
pub record IsAnswered (s : Shape) (c : Call) (old : Caller) (Gives : Bool → Answer → Type 0) (new : Caller) : Type 0 where
  pub awake : StaysAwake old new
  pub later : Bool
  pub answer : Answer
  pub gives : Gives later answer
  pub call : AnswersCall s old.node c (knows old) later answer (knows new)

-- The call was refused, for a reason that a call of its word may meet.
abbrev pub IsRefused : Shape → Call → Caller → Refusal → Caller → Type 0
IsRefused s c old why new = IsAnswered s c old (λ later answer. (answer ≡ Refused why) × (may_refuse (word_of c) later why ≡ true)) new

-- The call was not made.
pub record IsUnmade (old new : Caller) : Type 0 where
  pub awake : StaysAwake old new
  pub moves : Moves (knows old) (knows new)

-- The history is full, and the caller is spent from now on. Where it was spent before, nothing has changed.
pub record IsSpent (c : Call) (old new : Caller) : Type 0 where
  pub node : new.node ≡ old.node
  pub spent : new.spent ≡ true
  pub call : RunsFull old.node c (knows old) (knows new)
  pub stays : old.spent ≡ true → new ≡ old

-- The same, where the call was not made: pieces were moved, and nothing else.
pub record IsSpentBefore (old new : Caller) : Type 0 where
  pub node : new.node ≡ old.node
  pub spent : new.spent ≡ true
  pub moves : MovesToTheEnd (knows old) (knows new)
  pub stays : old.spent ≡ true → new ≡ old

-- Why a call has no answer that is Ok.
abbrev pub IsFaulted : Shape → Call → Caller → CallFault → Caller → Type 0
IsFaulted s c old (fault.Refused why) new = IsRefused s c old why new
IsFaulted s c old fault.OutOfMemory new = IsUnmade old new
IsFaulted s c old fault.Spent new = IsSpent c old new

-- What a call tells: that it was answered, and how its answer gives the result; or why it has no answer that is Ok.
abbrev pub Tells : {Out : Type 0} → Shape → Call → Caller → (Out → Answer → Type 0) → Result Out CallFault → Caller → Type 0
Tells s c old gives result new = MatchResult result (λ out. IsAnswered s c old (λ _ answer. gives out answer) new) (λ why. IsFaulted s c old why new)

-- A guard that ends its section: it is of a section that is open at the node, and that may end.
abbrev pub is_allowed : Option Refusal → Bool
is_allowed None = true
is_allowed (Some why) = false

abbrev pub may_end_read : Node → Guard → Bool
may_end_read n g = fits_reading n g && is_allowed (verdict n (call.EndRead g.name))

abbrev pub may_end_write : Node → Guard → Bool
may_end_write n g = fits_writing n g && is_allowed (verdict n (call.EndWrite g.name g.bytes))

-- The section was ended at once: the node before the last event of the front had one that the guard ends.
pub record EndsSection (s : Shape) (c : Call) (may_end : Node → Bool) (old new : Caller) : Type 0 where
  pub answered : IsAnswered s c old (λ later answer. (later ≡ false) × (answer ≡ Done)) new
  pub may : EndsWhere s old.node may_end (event.Call old.node c) (knows new).front

-- Why a section was not ended: the node after the front has none that the guard ends; or the history is full, and the end was not made.
abbrev pub IsNotEnded : Shape → (Node → Bool) → Caller → EndWhy → Caller → Type 0
IsNotEnded s may_end old end.Foreign new = IsUnmade old new × (may_end ((world_at s (knows new).front).nodes old.node) ≡ false)
IsNotEnded s may_end old end.Spent new = IsSpentBefore old new

-- What the end of a section tells: that it was ended; or why not, and the guard came back.
abbrev pub TellsEnd : {G : Type 0} → Shape → Call → (Node → Bool) → Caller → G → Result (Unit {0}) (EndFault G) → Caller → Type 0
TellsEnd s c may_end old guard result new = MatchResult result (λ _. EndsSection s c may_end old new) (λ back. (back.guard ≡ guard) × IsNotEnded s may_end old back.why new)
