-- What a choice of a run changes of the world and of the node's player.
use Rattle.std.specs.Prelude.{◌≡◌, ℕ, suc, true, false, List, ◌++◌}
use Rattle.std.specs.declared.option.Option.{Option}
use Rattle.std.specs.declared.option.Option.TheVariants.{None, Some}
use Rattle.crl_model.specs.declared.call.Call.{Call}
use Rattle.crl_model.specs.declared.call.Refusal.{Refusal}
use Rattle.crl_model.specs.declared.event.Event.{Event}
use Rattle.crl_model.specs.declared.event.Event.TheVariants as event
use Rattle.crl_model.specs.declared.statement.Statement.{Statement}
use Rattle.crl_protocol.specs.Node.{Node}
use Rattle.crl_protocol.specs.Verdict.{verdict}
use Rattle.crl_protocol.specs.World.{World, step, is_free, is_enabled}
use Rattle.crl_talk.specs.Guards.{Given}
use Rattle.crl_member.specs.Fitting.{goes_by_guard}
use Rattle.crl_run.specs.PlayerState.{PlayerState}
use Rattle.crl_run.specs.Players.{guards_given}
use Rattle.crl_run.specs.declared.act.Act.{Act}
use Rattle.crl_run.specs.declared.act.Act.TheVariants as act
use Rattle.crl_run.specs.Acting.{CanAct, Acts}
use Rattle.crl_run.specs.Actors.{asked_call, call_made}
use Rattle.crl_run.specs.Fits.{GuardFits}

-- The event is done, and a node that holds these guards, at this place, keeps the guard of the event's answer too.
pub record IsKeptFrom (e : Event) (w v : World) (here : ℕ) (held : List Given) (q : PlayerState) : Type 0 where
  pub world : v ≡ (step e w).world
  pub place : q.place ≡ here
  pub guards : q.guards ≡ guards_given (step e w).answer ++ held

-- A call may come, and isn't the end of a section that is allowed.
pub record CallMayCome (i : ℕ) (w : World) (c : Call) : Type 0 where
  pub enabled : is_enabled (event.Call i c) w ≡ true
  pub unguarded : goes_by_guard c (verdict (w.nodes i) c) ≡ false

abbrev pub CallOfAct : ℕ → World → Act → Type 0
CallOfAct i w (act.Call c) = CallMayCome i w c
CallOfAct i w (act.EndRead guard) = Unit {0}
CallOfAct i w (act.EndWrite guard) = Unit {0}
CallOfAct i w act.Inside = Unit {0}

-- What a node does for a statement may be done.
pub record MayBeMade (i : ℕ) (w : World) (a : Act) : Type 0 where
  pub free : is_free (w.nodes i).activity ≡ true
  pub fits : GuardFits i (w.nodes i) a
  pub call : CallOfAct i w a

-- the node's verdict on the call, if what it does is one
abbrev pub IsJudged : Option Refusal → Node → Act → Type 0
IsJudged refusal n (act.Call c) = refusal ≡ verdict n c
IsJudged refusal n (act.EndRead guard) = Unit {0}
IsJudged refusal n (act.EndWrite guard) = Unit {0}
IsJudged refusal n act.Inside = Unit {0}

-- It is done, or there was no call.
abbrev pub IsMade : ℕ → Option Call → World → World → ℕ → List Given → PlayerState → Type 0
IsMade i None w v place guards q = (v ≡ w) × (q.place ≡ place) × (q.guards ≡ guards)
IsMade i (Some c) w v place guards q = IsKeptFrom (event.Call i c) w v place guards q

-- A node that holds these guards may take this statement.
pub record MayTake (i : ℕ) (s : Statement) (w : World) (guards : List Given) : Type 0 where
  pub can : CanAct (verdict (w.nodes i) (asked_call s)) s guards
  pub made : (a : Act) (new : List Given) → Acts (verdict (w.nodes i) (asked_call s)) s guards a new → MayBeMade i w a

-- It took it.
pub record HasTaken (i : ℕ) (s : Statement) (w v : World) (p q : PlayerState) : Type 0 where
  pub act : Act
  pub guards : List Given
  pub acts : Acts (verdict (w.nodes i) (asked_call s)) s p.guards act guards
  pub made : IsMade i (call_made act) w v (suc p.place) guards q
