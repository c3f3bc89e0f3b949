-- What a node's place and its guards stand for.
use Rattle.std.specs.Prelude.{◌≡◌, ℕ, ◌&&◌, true, false, if◌then◌else◌, List, [], ◌∷◌, ◌++◌, length, drop, suc}
use Rattle.std.specs.List.{AllByRecursion}
use Rattle.std.specs.declared.option.Option.{Option}
use Rattle.std.specs.declared.option.Option.TheVariants.{None, Some}
use Rattle.crl_model.specs.declared.name.Name.{Name}
use Rattle.crl_model.specs.declared.call.Call as calls
use Rattle.crl_model.specs.declared.call.Call.TheVariants as call
use Rattle.crl_model.specs.declared.statement.Statement.{Statement}
use Rattle.crl_model.specs.declared.statement.Statement.TheVariants as statement
use Rattle.crl_model.specs.Names.{name_eq}
use Rattle.crl_protocol.specs.Node.{Node, Answer}
use Rattle.crl_protocol.specs.Verdict.{verdict}
use Rattle.crl_protocol.specs.Chosen.{Actor, call_of, is_change, is_allowed, after_change, takes_guard}
use Rattle.crl_talk.specs.Guards.{Given, without_newest}
use Rattle.crl_run.specs.declared.act.Act.{Act}
use Rattle.crl_run.specs.declared.act.Act.TheVariants as act
use Rattle.crl_run.specs.Players.{newest, guards_given}
use Rattle.crl_run.specs.Acting.{CanAct, Acts}

-- the draft is what the newest guard has, if that is of a write section
abbrev pub IsDraftOf : List ℕ → Option Given → Type 0
IsDraftOf draft None = Unit {0}
IsDraftOf draft (Some g) = g.write ≡ true → draft ≡ g.guard.bytes

-- A node that took so many of these statements and holds these guards, the newest first, stands for this actor: it has the
-- same statements left, and the guards of its open write sections have the drafts. Other drafts are never looked at.
pub record IsActor (statements : List Statement) (place : ℕ) (guards : List Given) (a : Actor) : Type 0 where
  pub left : a.left ≡ drop place statements
  pub drafts : (q : Name) → IsDraftOf (a.drafts q) (newest q guards)

-- the guards of one region
abbrev pub guards_of : Name → List Given → List Given
guards_of q [] = []
guards_of q (g ∷ gs) = if name_eq g.guard.name q then g ∷ guards_of q gs else guards_of q gs

-- behind the newest guard of a region there are only those of read sections
abbrev pub AreReads : List Given → Type 0
AreReads gs = AllByRecursion (λ (g : Given). g.write ≡ false) gs

abbrev pub IsExclusive : List Given → Type 0
IsExclusive guards = (q : Name) → AreReads (without_newest (guards_of q guards))

-- the call for which the node is asked its verdict
abbrev pub asked_call : Statement → calls.Call
asked_call (statement.Call c) = c
asked_call (statement.Put name offset bytes) = call.Put name offset (length bytes)
asked_call (statement.Add name offset number) = call.Add name offset

-- the call that is made, none for a change that is done
abbrev pub call_made : Act → Option calls.Call
call_made (act.Call c) = Some c
call_made (act.EndRead guard) = Some (call.EndRead guard.name)
call_made (act.EndWrite guard) = Some (call.EndWrite guard.name guard.bytes)
call_made act.Inside = None

-- The statement is an allowed change, and is made on the drafts; or its call is made.
abbrev pub IsTakenBy : List Statement → ℕ → List Given → Node → Statement → Actor → Option calls.Call → Type 0
IsTakenBy statements place guards n s a None = ((is_change s && is_allowed (verdict n (call_of n a s))) ≡ true) × IsActor statements place guards (after_change s a)
IsTakenBy statements place guards n s a (Some c) = ((is_change s && is_allowed (verdict n (call_of n a s))) ≡ false) × (c ≡ call_of n a s) × IsActor statements place guards a

-- A node takes its next statement, for whose call it has this verdict.
abbrev pub Takes : List Statement → ℕ → List Given → List Given → Node → Statement → Act → Actor → Type 0
Takes statements place old new n s a actor =
    drop place statements ≡ s ∷ drop (suc place) statements → IsActor statements place old actor → IsExclusive old → CanAct (verdict n (asked_call s)) s old → Acts (verdict n (asked_call s)) s old a new
    → IsTakenBy statements (suc place) new n s (record actor { left = drop (suc place) statements }) (call_made a)

-- It keeps the guard of an answer.
abbrev pub Keeps : List Statement → ℕ → List Given → Answer → Actor → Type 0
Keeps statements place guards answer actor = IsActor statements place guards actor → IsActor statements place (guards_given answer ++ guards) (takes_guard answer actor)

abbrev pub PlayersTake : Type 0
PlayersTake = (statements : List Statement) (place : ℕ) (old new : List Given) (n : Node) (s : Statement) (does : Act) (actor : Actor) → Takes statements place old new n s does actor

abbrev pub PlayersKeep : Type 0
PlayersKeep = (statements : List Statement) (place : ℕ) (guards : List Given) (answer : Answer) (actor : Actor) → Keeps statements place guards answer actor
