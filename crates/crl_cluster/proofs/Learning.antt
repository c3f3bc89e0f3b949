-- A pass that has learnt of events which others appended, and then tries its own again: what comes of that is what comes from
-- where it began.
use Rattle.std.proofs.Common.{◌≡◌, ℕ, List, refl, sym, ap, ◌∙◌, arith}
use Rattle.crl_model.specs.declared.event.Event.{Event}
use Rattle.crl_deeds.specs.Laws.{node_of}
use Rattle.crl_turns.specs.declared.turned.Shape.{Shape}
use Rattle.crl_turns.specs.declared.view.View.{View}
use Rattle.crl_turns.specs.declared.faults.AppendFault.{AppendFault}
use Rattle.crl_turns.specs.declared.faults.AppendFault.TheVariants.{Moved, Spent}
use Rattle.crl_turns.specs.Fronts.{Runs}
use Rattle.crl_turns.specs.Plays.{after_load, after_append}
use Rattle.crl_turns.proofs.Laws.{holds_what_it_has, begins_same, begins_length}
use Rattle.crl_cluster.specs.Standing.{world_at, MayCome}
use Rattle.crl_cluster.specs.Clusters.{GrowsPast, held_by}
use Rattle.crl_cluster.specs.Acting.{ComesAt, IsMoved, IsUndone}
use Rattle.crl_cluster.specs.Faults.{fault_of}
use Rattle.crl_cluster.proofs.Coming.{HasTouched}
use Rattle.crl_cluster.proofs.Growing.{past_twice, holds_as, has_as}
use Rattle.crl_cluster.proofs.Worlds.{run_of, count_at, touches_as, enabled_as}
use Rattle.crl_deeds.proofs.Laws.{touches_own}

-- The front has grown past the nodes that the pass holds. A load of the count tells now what it would have told before.
pub record Learns (s : Shape) (old now : View) : Type 0 where
  pub grows : GrowsPast (held_by old) s old.front now.front
  pub view : (log : List Event) → after_load log now ≡ after_load log old

pub learns_nothing : (s : Shape) (old : View) → Learns s old old
learns_nothing s old = record { grows = record { begins = begins_same old.front; nodes = λ i holds. refl; heard = λ i holds. refl }; view = λ log. refl }

module _ (s : Shape) (old now : View) (learns : Learns s old now) where
  holds : now.holds ≡ old.holds
  holds = ap (λ (v : View). v.holds) (learns.view old.front)

  grows_on : (front : List Event) → GrowsPast (held_by now) s now.front front → GrowsPast (held_by old) s old.front front
  grows_on front more =
      past_twice (held_by old) s old.front now.front front learns.grows
      (record { begins = more.begins; nodes = λ i this. more.nodes i (holds_as i old now holds this); heard = λ i this. more.heard i (holds_as i old now holds this) })

  module _ (e : Event) (has : HasTouched s old e) where
    same_node : (world_at s now.front).nodes (node_of e) ≡ (world_at s old.front).nodes (node_of e)
    same_node = learns.grows.nodes (node_of e) (holds_what_it_has (node_of e) old (has (node_of e) (touches_own e (world_at s old.front))).1)

    pub may_later : Runs (MayCome s) old.front → Runs (MayCome s) now.front → MayCome s old.front e → MayCome s now.front e
    may_later runs_old runs may =
        enabled_as e (world_at s now.front) (world_at s old.front) (count_at s now.front (run_of s now.front runs) ∙ sym (count_at s old.front (run_of s old.front runs_old))) same_node ∙ may

    pub has_later : HasTouched s now e
    has_later i hit =
        let h = has i (sym (touches_as e (world_at s now.front) (world_at s old.front) i same_node) ∙ hit) in
        (h.0, has_as i old now holds h.1)

    pub comes_later : (at : ℕ) (new : View) → ComesAt at s e now new → ComesAt at s e old new
    comes_later at new did = record {
      comes = record {
        before = did.comes.before;
        grows = grows_on did.comes.before did.comes.grows;
        room = did.comes.room;
        enabled = did.comes.enabled;
        run = did.comes.run;
        front = did.comes.front;
        view = did.comes.view ∙ ap (λ (v : View). after_append did.comes.before e v) (learns.view did.comes.before);
      };
      at_is = did.at_is;
    }

  moved_later : (saw found : ℕ) (new : View) → IsMoved s now saw found new → IsMoved s old saw found new
  moved_later saw found new moved =
      let longer = begins_length old.front now.front learns.grows.begins in
      let known = moved.known in
      record {
        known = omega (arith, longer, known);
        more = moved.more;
        counts = moved.counts;
        limit = moved.limit;
        grows = grows_on new.front moved.grows;
        view = moved.view ∙ learns.view new.front;
      }

  pub undone_later : (fault : AppendFault) (new : View) → IsUndone s now (fault_of fault) new → IsUndone s old (fault_of fault) new
  undone_later (Moved saw found) new undone = moved_later saw found new undone
  undone_later Spent new undone = record { full = undone.full; grows = grows_on new.front undone.grows; view = undone.view ∙ learns.view new.front }

  pub learns_more : (saw found : ℕ) (new : View) → IsMoved s now saw found new → Learns s old new
  learns_more saw found new moved =
      record { grows = grows_on new.front moved.grows; view = λ log. ap (λ (v : View). after_load log v) moved.view ∙ learns.view log }
