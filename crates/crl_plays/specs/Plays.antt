-- How far a node is in its statements, by what it heard alone; and that a run whose nodes all play is one that the script and
-- some order of steps choose.
use Rattle.std.specs.Prelude.{◌≡◌, ℕ, ◌<◌, Bool, true, false, List, [], ◌∷◌, ◌++◌}
use Rattle.std.specs.declared.option.Option.TheVariants.{None}
use Rattle.crl_model.specs.declared.call.Call.{Call}
use Rattle.crl_model.specs.declared.call.Call.TheVariants as call
use Rattle.crl_model.specs.declared.event.Event.{Event}
use Rattle.crl_model.specs.declared.statement.Statement.{Statement}
use Rattle.crl_protocol.specs.Node.{Node, Answer, Free, Wait}
use Rattle.crl_protocol.specs.Talk.{Heard, Called, Collected, hears}
use Rattle.crl_protocol.specs.Verdict.{verdict}
use Rattle.crl_protocol.specs.World.{new_world, world_of, account, IsRun}
use Rattle.crl_protocol.specs.Chosen.{Running, block_of}
use Rattle.crl_deeds.specs.Laws.{IsChosenBySome}
use Rattle.crl_talk.specs.Script.{Drafts, no_drafts, drafts_given, Changes, CallsFor}

-- In some run node i heard this, and is this node after it.
pub record HasHeard (i : ℕ) (heard : List Heard) (n : Node) : Type 0 where
  pub count : ℕ
  pub capacity : ℕ
  pub run : List Event
  pub is_run : IsRun count capacity run
  pub within : i < count
  pub hears : hears i (new_world count capacity) run ≡ heard
  pub node : n ≡ (world_of count capacity run).nodes i

-- A node is free until it makes a call that waits, and again once it has taken the answer.
abbrev pub is_free_by : Heard → Bool
is_free_by (Called c Wait) = false
is_free_by (Called c answer) = true
is_free_by (Collected answer) = true

abbrev pub is_free_after : Bool → List Heard → Bool
is_free_after was [] = was
is_free_after was (h ∷ hs) = is_free_after (is_free_by h) hs

-- the calls that a node allows by the write section that is open there
abbrev pub IsInWriting : Call → Type 0
IsInWriting (call.EndWrite name after) = Unit {0}
IsInWriting (call.Put name offset len) = Unit {0}
IsInWriting (call.Add name offset) = Unit {0}
IsInWriting c = ⊥

-- Node i, which heard this, has these of its statements left, and its open write sections these drafts: the statements
-- before gave its calls, in order, and changes that are allowed are made on the drafts and are no calls.
pub data Plays (i : ℕ) (block : List Statement) : List Heard → List Statement → Drafts → Type 0 where
  begins : Plays i block [] block no_drafts
  inside : {heard : List Heard} {left : List Statement} {d after : Drafts} (s : Statement) (c : Call) (n : Node)
      → HasHeard i heard n → n.activity ≡ Free → Changes d s c after → verdict n c ≡ None → Plays i block heard (s ∷ left) d → Plays i block heard left after
  calls : {heard : List Heard} {left : List Statement} {d : Drafts} (s : Statement) (c : Call) (answer : Answer) (n : Node)
      → HasHeard i heard n → CallsFor n d s c → Plays i block heard (s ∷ left) d
      → Plays i block (heard ++ Called c answer ∷ []) left (drafts_given answer d)
  collects : {heard : List Heard} {left : List Statement} {d : Drafts} (answer : Answer)
      → Plays i block heard left d → Plays i block (heard ++ Collected answer ∷ []) left (drafts_given answer d)

-- A run on its way with these events, which the script and some order of steps choose. Each node has these statements left,
-- and these drafts.
pub record IsFollowed (count capacity : ℕ) (blocks : List (List Statement)) (history : List Event) (left : ℕ → List Statement) (drafts : ℕ → Drafts) : Type 0 where
  pub reached : Running
  pub chosen : IsChosenBySome count capacity blocks reached
  pub events : reached.events ≡ history
  pub world : reached.world ≡ world_of count capacity history
  pub entries : reached.entries ≡ account count capacity history
  pub left_is : (i : ℕ) → i < count → (reached.actors i).left ≡ left i
  pub drafts_are : (i : ℕ) → i < count → (reached.actors i).drafts ≡ drafts i

-- Each node of the run plays its block: by what it heard it has these statements left, and these drafts.
abbrev pub AllPlay : ℕ → ℕ → List (List Statement) → List Event → (ℕ → List Statement) → (ℕ → Drafts) → Type 0
AllPlay count capacity blocks history left drafts =
    (i : ℕ) → i < count → Plays i (block_of blocks i) (hears i (new_world count capacity) history) (left i) (drafts i)

abbrev pub PlaysAreRuns : Type 0
PlaysAreRuns =
    (count capacity : ℕ) (blocks : List (List Statement)) (history : List Event) (left : ℕ → List Statement) (drafts : ℕ → Drafts) → IsRun count capacity history
    → AllPlay count capacity blocks history left drafts → IsFollowed count capacity blocks history left drafts
