-- A held node after what is no statement, and what a pass holds before and after it.
use Rattle.std.proofs.Common.{◌≡◌, ◌∙◌, sym, ap, subst, ℕ, List, ◌++◌}
use Rattle.crl_model.specs.declared.event.Event.TheVariants as event
use Rattle.crl_model.specs.declared.statement.Statement.{Statement}
use Rattle.crl_protocol.specs.Node.{Node, Answer}
use Rattle.crl_protocol.specs.World.{new_world}
use Rattle.crl_deeds.proofs.Laws.{append_nil}
use Rattle.crl_turns.specs.declared.faults.CloseWhy.{CloseWhy}
use Rattle.crl_turns.specs.declared.faults.CloseWhy.TheVariants.{OutOfMemory, Busy}
use Rattle.crl_turns.specs.declared.view.View.{View}
use Rattle.crl_turns.specs.Plays.{after_split, split_view}
use Rattle.crl_turns.specs.Rule.{value_place}
use Rattle.crl_turns.specs.Closing.{HoldsNone}
use Rattle.crl_turns.specs.Passes as turns
use Rattle.crl_turns.proofs.Laws.{holds_what_it_has}
use Rattle.crl_cluster.specs.declared.cluster.Cluster.{Cluster}
use Rattle.crl_cluster.specs.declared.cluster.Pass.{Pass}
use Rattle.crl_cluster.specs.declared.held.Held.{Held}
use Rattle.crl_cluster.specs.Standing.{heard_at, hears_then}
use Rattle.crl_cluster.specs.Clusters.{view_of, shape_of, IsOf, IsHeld, IsSameHeld}
use Rattle.crl_cluster.specs.Acting.{Comes, IsDone}
use Rattle.crl_cluster.specs.Closing.{IsNotClosed}
use Rattle.crl_run.specs.PlayerState.{PlayerState}
use Rattle.crl_run.specs.Players.{guards_given}
use Rattle.crl_crew.specs.Standing.{StandsAt}
use Rattle.crl_crew.specs.Working.{IsIdle, WorksAt, HeardNothing, StaysAt}
use Rattle.crl_crew.proofs.Places.{stands_collected}
use Rattle.crl_crew.proofs.Views.{comes_only}

module _ {N T A B : Type 0} (state : N → Node) (cluster : Cluster N T A B) (pass : Pass) (held : Held N T) (after : Pass) (held_after : Held N T) where
  -- a piece was handled, which the node doesn't hear
  pub handled_quiet : (place : ℕ) → IsHeld state (shape_of cluster) (view_of pass) held → IsOf cluster after → IsHeld state (shape_of cluster) (view_of after) held_after × IsSameHeld held held_after
      → Comes (shape_of cluster) (event.Handle held.number place) (view_of pass) (view_of after) → HeardNothing state cluster pass held after held_after
  handled_quiet place old here (is, same) came =
      let s = shape_of cluster in
      let i = held.number in
      record {
        here = here;
        number = same.number;
        held_is = is;
        only = comes_only s i (event.Handle i place) (view_of pass) (view_of after) came;
        heard = ap (heard_at s i) came.front ∙ hears_then i (new_world s.parts s.extra) came.before (event.Handle i place) ∙ append_nil (heard_at s i came.before) ∙ came.grows.heard i (holds_what_it_has i (view_of pass) old.has);
      }

  -- the player stands for what it stood for
  pub works_quiet : (statements : List Statement) (p : PlayerState) → HeardNothing state cluster pass held after held_after → WorksAt state cluster held.number statements pass held p → WorksAt state cluster held.number statements after held_after p
  works_quiet statements p quiet works = record {
    here = quiet.here;
    number_is = quiet.number;
    held_is = quiet.held_is;
    only = quiet.only works.only;
    stands = subst (λ hs. StandsAt held.number statements hs p) (sym quiet.heard) works.stands;
  }

  -- an answer was taken, whose guard the player keeps
  pub collected_stays : (p q : PlayerState) (answer : Answer) → IsHeld state (shape_of cluster) (view_of pass) held → IsOf cluster after → IsHeld state (shape_of cluster) (view_of after) held_after × IsSameHeld held held_after
      → IsDone (shape_of cluster) (event.Collect held.number) (view_of pass) answer (view_of after) → q.place ≡ p.place → q.guards ≡ guards_given answer ++ p.guards → StaysAt state cluster pass held p after held_after q
  collected_stays p q answer old here (is, same) d place guards statements works =
      let s = shape_of cluster in
      let i = held.number in
      let before = d.comes.before in
      let st : StandsAt i statements (heard_at s i before) p = subst (λ hs. StandsAt i statements hs p) (sym (d.comes.grows.heard i (holds_what_it_has i (view_of pass) old.has))) works.stands in
      record {
        here = here;
        number_is = same.number;
        held_is = is;
        only = comes_only s i (event.Collect i) (view_of pass) (view_of after) d.comes works.only;
        stands = subst (λ es. StandsAt i statements (heard_at s i es) q) (sym d.comes.front)
            (stands_collected s i statements before d.comes.run.enabled d.comes.enabled p st q place (guards ∙ ap (λ a. guards_given a ++ p.guards) d.answer_is));
      }

module _ {N T A B : Type 0} where
  -- the number of a held node by another name
  pub works_as : (state : N → Node) (cluster : Cluster N T A B) (i j : ℕ) (statements : List Statement) (pass : Pass) (held : Held N T) (p : PlayerState) → i ≡ j → WorksAt state cluster i statements pass held p → WorksAt state cluster j statements pass held p
  works_as state cluster i j statements pass held p e works = subst (λ k. WorksAt state cluster k statements pass held p) e works

  -- a pass was split
  pub split_idle : (cluster : Cluster N T A B) (pass after own : Pass) → IsIdle cluster pass → IsOf cluster after × IsOf cluster own → (view_of after ≡ after_split (view_of pass)) × (view_of own ≡ split_view (view_of pass)) → IsIdle cluster after × IsIdle cluster own
  split_idle cluster pass after own idle here told = (
    record { here = here.0; idle = λ j. ap (λ (v : View). value_place j v.holds) told.0 ∙ idle.idle j },
    record { here = here.1; idle = λ j. ap (λ (v : View). value_place j v.holds) told.1 },
  )

  -- a cluster that isn't closed comes back with the pass, which holds no node
  pub still_idle : (cluster again : Cluster N T A B) (pass own : Pass) (why : CloseWhy) → IsIdle cluster pass → again.turns ≡ cluster.turns → IsOf cluster own → IsNotClosed (shape_of cluster) (view_of pass) why (view_of own) → IsIdle again own
  still_idle cluster again pass own why idle e here not = record {
    here = record {
      turns_are = subst (λ t. turns.IsOf t own.turns) (sym e) here.turns_are;
      shape_is = here.shape_is ∙ ap (λ t. turns.common_shape t) (sym e);
    };
    idle = go why not;
  }
    where
      go : (why : CloseWhy) → IsNotClosed (shape_of cluster) (view_of pass) why (view_of own) → HoldsNone (view_of own)
      go OutOfMemory n = subst (λ (v : View). HoldsNone v) (sym n) idle.idle
      go (Busy node) n = n.idle
