-- A held node takes its next statement.
use Rattle.std.proofs.Common.{◌≡◌, ◌∙◌, sym, ap, subst, ◌<◌, true, ℕ, zero, suc, Option, Some, None, List, [], ◌∷◌, ◌++◌, length, drop, get_or, arith}
use Rattle.std.specs.List.{All}
use Rattle.crl_model.specs.declared.call.Call as calls
use Rattle.crl_model.specs.declared.event.Event.{Event}
use Rattle.crl_model.specs.declared.statement.Statement.{Statement}
use Rattle.crl_protocol.specs.Node.{Node, Free}
use Rattle.crl_protocol.specs.Chosen.{block_of}
use Rattle.crl_protocol.specs.Verdict.{verdict}
use Rattle.crl_protocol.specs.World.{is_free, IsRun}
use Rattle.crl_deeds.specs.Laws.{IsStatement}
use Rattle.crl_talk.specs.Guards.{Given}
use Rattle.crl_turns.specs.declared.turned.Shape.{Shape}
use Rattle.crl_cluster.specs.declared.cluster.Cluster.{Cluster}
use Rattle.crl_cluster.specs.declared.cluster.Pass.{Pass}
use Rattle.crl_cluster.specs.declared.held.Held.{Held}
use Rattle.crl_cluster.specs.Standing.{world_at, heard_at}
use Rattle.crl_cluster.specs.Clusters.{view_of, shape_of, IsOf}
use Rattle.crl_cluster.specs.Histories.{FrontIsHistory}
use Rattle.crl_run.specs.declared.act.Act.{Act}
use Rattle.crl_run.specs.PlayerState.{PlayerState}
use Rattle.crl_run.specs.Players.{guards_given}
use Rattle.crl_run.specs.Acting.{CanAct, Acts}
use Rattle.crl_run.specs.Actors.{asked_call, call_made, IsTakenBy}
use Rattle.crl_run.proofs.Laws.{SpendsOne}
use Rattle.crl_crew.specs.Standing.{StandsAt, AreTaken}
use Rattle.crl_crew.specs.Driving.{IsDoneFor, MayDo}
use Rattle.crl_crew.specs.Working.{IsScriptOf, WorksAt}
use Rattle.crl_crew.proofs.Doable.{may_do}
use Rattle.crl_crew.proofs.Statements as one
use Rattle.crl_crew.proofs.Views.{only_as}
use Rattle.crl_deeds.proofs.Laws.{free_is}

-- what holds of all statements holds of the next one
pub at_place : (P : Statement → Type 0) (xs : List Statement) (place : ℕ) (x : Statement) (rest : List Statement) → All P xs → drop place xs ≡ x ∷ rest → P x
at_place P [] zero x rest all e = cc
at_place P [] (suc n) x rest all e = cc
at_place P (y ∷ ys) zero x rest all e = subst (λ z. P z) (ap (λ l. get_or l 0 x) e) (all 0 x (omega arith))
at_place P (y ∷ ys) (suc n) x rest all e = at_place P ys n x rest (λ k d lt. all (suc k) d (omega arith)) e

-- the statements of one node of a script
pub taken_of : (count : ℕ) (blocks : List (List Statement)) (i : ℕ) (statements : List Statement) → IsScriptOf count blocks → i < count → statements ≡ block_of blocks i → AreTaken statements
taken_of count blocks i statements script few is = subst (λ l. AreTaken l) (sym is)
    (let within : i < length blocks = subst (λ n. i < n) (sym script.many) few in record { are = script.are i [] within; short = script.short i [] within })

module _ {N T A B : Type 0} (state : N → Node) (cluster : Cluster N T A B) (statements : List Statement) (pass : Pass) (held : Held N T) (p : PlayerState)
    (works : WorksAt state cluster held.number statements pass held p) (history : FrontIsHistory pass) (free : is_free (state held.behind.node).activity ≡ true) (x : Statement) where
  abbrev s : Shape
  s = shape_of cluster

  abbrev i : ℕ
  i = held.number

  abbrev front : List Event
  front = (view_of pass).front

  run : IsRun s.parts s.extra front
  run = subst (λ (k : Shape). IsRun k.parts k.extra front) works.here.shape_is history.run

  node_is : state held.behind.node ≡ (world_at s front).nodes i
  node_is = works.held_is.node_is

  free_there : ((world_at s front).nodes i).activity ≡ Free
  free_there = free_is _ (subst (λ (n : Node). is_free n.activity ≡ true) node_is free)

  pub can : CanAct (verdict (state held.behind.node) (asked_call x)) x p.guards
  can = subst (λ (n : Node). CanAct (verdict n (asked_call x)) x p.guards) (sym node_is) (one.can s i statements front run works.held_is.inside p works.stands free_there x)

  module _ (taken : AreTaken statements) (next : drop p.place statements ≡ x ∷ drop (suc p.place) statements) (does : Act) (new : List Given) (acts : Acts (verdict (state held.behind.node) (asked_call x)) x p.guards does new) where
    acts_there : Acts (verdict ((world_at s front).nodes i) (asked_call x)) x p.guards does new
    acts_there = subst (λ (n : Node). Acts (verdict n (asked_call x)) x p.guards does new) node_is acts

    pub may : MayDo i (state held.behind.node) does
    may = subst (λ (n : Node). MayDo i n does) (sym node_is)
        (may_do i ((world_at s front).nodes i) p.guards new x does (at_place IsStatement statements p.place x (drop (suc p.place) statements) taken.are next)
        (one.can s i statements front run works.held_is.inside p works.stands free_there x) acts_there
        (one.fits s i statements front run works.held_is.inside p works.stands free_there x does new acts_there next)
        (one.unguarded s i statements front run works.held_is.inside p works.stands free_there x does new acts_there next))

    module _ (after : Pass) (held_after : Held N T) (q : PlayerState) (here : IsOf cluster after) (place : q.place ≡ suc p.place) where
      at_call : (o : Option calls.Call) → IsTakenBy statements (suc p.place) new ((world_at s front).nodes i) x (one.actor s i statements front run works.held_is.inside p works.stands free_there x does new acts_there next) o
          → SpendsOne ((world_at s front).nodes i) p.guards new o → IsDoneFor state s o (view_of pass) held new (view_of after) held_after q.guards → WorksAt state cluster i statements after held_after q
      at_call None t sp (still, e) = record {
        here = here;
        number_is = still.number;
        held_is = still.held_is;
        only = only_as i (view_of pass) (view_of after) still.holds works.only;
        stands = subst (λ hs. StandsAt i statements hs q) (sym still.heard) (one.stands_changed s i statements front run works.held_is.inside p works.stands free_there x does new acts_there next q t place e);
      }
      at_call (Some c) t sp (answer, came, e) = record {
        here = here;
        number_is = came.number;
        held_is = came.held_is;
        only = only_as i (view_of pass) (view_of after) came.holds works.only;
        stands = subst (λ es. StandsAt i statements (heard_at s i es) q) (sym came.front)
            (one.stands_called s i statements front run works.held_is.inside p works.stands free_there x does new acts_there next c came.before came.run.enabled came.enabled came.node came.heard q t sp place
            (e ∙ ap (λ a. guards_given a ++ new) came.answer_is));
      }

      pub taken_works : IsDoneFor state s (call_made does) (view_of pass) held new (view_of after) held_after q.guards → WorksAt state cluster i statements after held_after q
      taken_works done =
          at_call (call_made does) (one.taken s i statements front run works.held_is.inside p works.stands free_there x does new acts_there next)
          (one.spends s i statements front run works.held_is.inside p works.stands free_there x does new acts_there next) done
