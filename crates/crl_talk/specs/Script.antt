-- Which calls a node of a run makes for its statements, in order.
use Rattle.std.specs.Prelude.{◌≡◌, ℕ, ◌==◌, Bool, false, if◌then◌else◌, List, [], ◌∷◌, ◌++◌, length}
use Rattle.std.specs.declared.option.Option.TheVariants.{None, Some}
use Rattle.crl_model.specs.declared.name.Name.{Name}
use Rattle.crl_model.specs.declared.call.Call.{Call}
use Rattle.crl_model.specs.declared.call.Call.TheVariants as call
use Rattle.crl_model.specs.declared.call.Refusal.{Refusal}
use Rattle.crl_model.specs.declared.event.Event.{Event}
use Rattle.crl_model.specs.declared.event.Event.TheVariants as event
use Rattle.crl_model.specs.declared.statement.Statement.{Statement}
use Rattle.crl_model.specs.declared.statement.Statement.TheVariants as statement
use Rattle.crl_model.specs.Names.{at_name}
use Rattle.crl_model.specs.Patches.{put_at}
use Rattle.crl_protocol.specs.Node.{Node, Answer, Writing, Free}
use Rattle.crl_protocol.specs.Verdict.{verdict}
use Rattle.crl_protocol.specs.World.{World, step}
use Rattle.crl_protocol.specs.Chosen.{with_sum}
use Rattle.crl_deeds.specs.Laws.{node_of}

-- The drafts of a node: of each region the bytes that the changes inside its write section have made of those with
-- which it opened.
abbrev pub Drafts : Type 0
Drafts = Name → List ℕ

abbrev pub no_drafts : Drafts
no_drafts name = []

-- a write section that opens begins the draft of its region
abbrev pub drafts_given : Answer → Drafts → Drafts
drafts_given (Writing guard) d = at_name d guard.name guard.bytes
drafts_given _ d = d

-- A change as a call, and the drafts after it. Another statement is no change.
pub data Changes (d : Drafts) : Statement → Call → Drafts → Type 0 where
  puts : (name : Name) (offset : ℕ) (bytes : List ℕ) → Changes d (statement.Put name offset bytes) (call.Put name offset (length bytes)) (at_name d name (put_at offset bytes (d name)))
  adds : (name : Name) (offset number : ℕ) → Changes d (statement.Add name offset number) (call.Add name offset) (at_name d name (with_sum offset number (d name)))

-- The call that a node makes for a statement: a plain call as it stands, a change only where it is refused; and the end
-- of a write section leaves the draft, or no bytes where it is refused.
abbrev pub IsPlain : Call → Type 0
IsPlain (call.EndWrite name after) = ⊥
IsPlain c = Unit {0}

pub data CallsFor (n : Node) (d : Drafts) : Statement → Call → Type 0 where
  plain : (c : Call) → IsPlain c → CallsFor n d (statement.Call c) c
  leaves : (name : Name) (after : List ℕ) → verdict n (call.EndWrite name after) ≡ None → CallsFor n d (statement.Call (call.EndWrite name after)) (call.EndWrite name (d name))
  cant_leave : (name : Name) (after : List ℕ) (why : Refusal) → verdict n (call.EndWrite name after) ≡ Some why → CallsFor n d (statement.Call (call.EndWrite name after)) (call.EndWrite name [])
  cant_change : {s : Statement} {c : Call} {after : Drafts} (why : Refusal) → Changes d s c after → verdict n c ≡ Some why → CallsFor n d s c

-- the node makes a call at this event
abbrev pub calls_at : ℕ → Event → Bool
calls_at n (event.Call i c) = i == n
calls_at n (event.Collect i) = false
calls_at n (event.Handle i place) = false
calls_at n (event.Carry i place) = false

-- Events of a run from a world on, in which node n makes the calls of these statements and no others. A change that is
-- allowed is left out, wherever it is made while the node is free; its bytes are in the draft.
pub data CallsAre (n : ℕ) : World → Drafts → List Statement → List Event → Type 0 where
  ended : {w : World} {d : Drafts} → CallsAre n w d [] []
  left_out : {w : World} {d after : Drafts} {ss : List Statement} {es : List Event} (s : Statement) (c : Call) → (w.nodes n).activity ≡ Free → Changes d s c after → verdict (w.nodes n) c ≡ None
      → CallsAre n w after ss es → CallsAre n w d (s ∷ ss) es
  made : {w : World} {d : Drafts} {ss : List Statement} {es : List Event} (s : Statement) (c : Call) → (w.nodes n).activity ≡ Free → CallsFor (w.nodes n) d s c
      → CallsAre n (step (event.Call n c) w).world (drafts_given (step (event.Call n c) w).answer d) ss es → CallsAre n w d (s ∷ ss) (event.Call n c ∷ es)
  passes : {w : World} {d : Drafts} {ss : List Statement} {es : List Event} (e : Event) → calls_at n e ≡ false
      → CallsAre n (step e w).world (if node_of e == n then drafts_given (step e w).answer d else d) ss es → CallsAre n w d ss (e ∷ es)

-- The node has these of its statements left, and those before them give its calls.
pub record CallsAreThose (n : ℕ) (w : World) (statements left : List Statement) (run : List Event) : Type 0 where
  pub reached : List Statement
  pub parts : statements ≡ reached ++ left
  pub calls : CallsAre n w no_drafts reached run
