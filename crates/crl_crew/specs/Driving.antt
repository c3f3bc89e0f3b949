-- What is done at a held node for a statement.
use Rattle.std.specs.Prelude.{◌≡◌, ℕ, ◌++◌, List, [], ◌∷◌}
use Rattle.std.specs.declared.option.Option.{Option}
use Rattle.std.specs.declared.option.Option.TheVariants.{None, Some}
use Rattle.crl_model.specs.declared.call.Call.{Call}
use Rattle.crl_model.specs.declared.event.Event.{Event}
use Rattle.crl_model.specs.declared.event.Event.TheVariants as event
use Rattle.crl_protocol.specs.Node.{Node, Answer}
use Rattle.crl_protocol.specs.World.{step, IsRun}
use Rattle.crl_talk.specs.Guards.{Given}
use Rattle.crl_turns.specs.declared.turned.Shape.{Shape}
use Rattle.crl_turns.specs.declared.view.View.{View}
use Rattle.crl_member.specs.Fitting.{MayCall}
use Rattle.crl_cluster.specs.declared.held.Held.{Held}
use Rattle.crl_cluster.specs.Standing.{world_at, heard_at, MayCome}
use Rattle.crl_cluster.specs.Clusters.{IsHeld}
use Rattle.crl_run.specs.declared.act.Act.{Act}
use Rattle.crl_run.specs.declared.act.Act.TheVariants as act
use Rattle.crl_run.specs.Players.{guards_given}
use Rattle.crl_run.specs.Fits.{GuardFits}

module _ {N T : Type 0} (state : N → Node) (s : Shape) where
  -- The same node is held, as it was, and it has heard nothing more.
  pub record IsStill (old : View) (held_old : Held N T) (new : View) (held : Held N T) : Type 0 where
    pub held_is : IsHeld state s new held
    pub number : held.number ≡ held_old.number
    pub holds : new.holds ≡ old.holds
    pub node : (world_at s new.front).nodes held_old.number ≡ (world_at s old.front).nodes held_old.number
    pub heard : heard_at s held_old.number new.front ≡ heard_at s held_old.number old.front

  -- An event of the held node is done, with this answer. Until it came the node was as it was, and heard nothing more.
  pub record IsEventOf (e : Event) (old : View) (held_old : Held N T) (answer : Answer) (new : View) (held : Held N T) : Type 0 where
    pub before : List Event
    pub run : IsRun s.parts s.extra before
    pub enabled : MayCome s before e
    pub node : (world_at s before).nodes held_old.number ≡ (world_at s old.front).nodes held_old.number
    pub heard : heard_at s held_old.number before ≡ heard_at s held_old.number old.front
    pub answer_is : answer ≡ (step e (world_at s before)).answer
    pub front : new.front ≡ before ++ e ∷ []
    pub held_is : IsHeld state s new held
    pub number : held.number ≡ held_old.number
    pub holds : new.holds ≡ old.holds

  -- The node made this call, and the player keeps the guard of the answer; or there was no call.
  abbrev pub IsDoneFor : Option Call → View → Held N T → List Given → View → Held N T → List Given → Type 0
  IsDoneFor None old held_old guards_old new held guards = IsStill old held_old new held × (guards ≡ guards_old)
  IsDoneFor (Some c) old held_old guards_old new held guards =
      (answer : Answer) × IsEventOf (event.Call held_old.number c) old held_old answer new held × (guards ≡ guards_given answer ++ guards_old)

-- What is done for a statement may be done at the node.
abbrev pub MayDo : ℕ → Node → Act → Type 0
MayDo i n (act.Call c) = MayCall n c
MayDo i n (act.EndRead guard) = GuardFits i n (act.EndRead guard)
MayDo i n (act.EndWrite guard) = GuardFits i n (act.EndWrite guard)
MayDo i n act.Inside = Unit {0}
