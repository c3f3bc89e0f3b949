-- An event that may come after a front may come after one that has grown past the nodes that it touches.
use Rattle.std.proofs.Common.{◌≡◌, ℕ, ◌+◌, ◌<◌, ◌≤◌, ◌^◌, true, List, [], ◌∷◌, ◌++◌, length, refl, sym, ap, ◌∙◌, subst, arith, eq-eqb, length-append}
use Rattle.std.proofs.lemmas.Bool.{or_left}
use Rattle.crl_model.specs.declared.event.Event.{Event}
use Rattle.crl_model.specs.declared.event.Event.TheVariants as event
use Rattle.crl_protocol.specs.World.{World}
use Rattle.crl_deeds.specs.Laws.{touches, node_of}
use Rattle.crl_turns.specs.declared.turned.Shape.{Shape}
use Rattle.crl_turns.specs.declared.view.View.{View}
use Rattle.crl_turns.specs.declared.faults.AppendFault.{AppendFault}
use Rattle.crl_turns.specs.declared.faults.AppendFault.TheVariants.{Moved, Spent}
use Rattle.crl_turns.specs.Calls.{HasValue, RefusesAppend}
use Rattle.crl_turns.specs.Fronts.{Begins, Runs, Spares}
use Rattle.crl_turns.specs.Plays.{after_load, after_append}
use Rattle.crl_turns.specs.Rule.{HoldsTurn}
use Rattle.crl_turns.proofs.Laws.{holds_what_it_has, begins_length}
use Rattle.crl_cluster.specs.Standing.{world_at, MayCome, TouchesNode}
use Rattle.crl_cluster.specs.Clusters.{GrowsPast, held_by}
use Rattle.crl_cluster.specs.Acting.{ComesAt, IsUndone}
use Rattle.crl_cluster.specs.declared.faults.StepFault.{StepFault}
use Rattle.crl_cluster.specs.Faults.{fault_of}
use Rattle.crl_cluster.proofs.Growing.{past, past_twice, holds_as, has_as}
use Rattle.crl_cluster.proofs.Worlds.{run_of, count_at, touches_as, enabled_as}
use Rattle.crl_deeds.proofs.Laws.{touches_own}

-- the pass has each node that the event touches
abbrev pub HasTouched : Shape → View → Event → Type 0
HasTouched s view e = (i : ℕ) → TouchesNode s view.front e i → (i < s.parts) × HasValue i view

-- What the pass knew, and then saw by a load of the count.
module _ (s : Shape) (e : Event) (old seen : View) (begins : Begins old.front seen.front) (runs_old : Runs (MayCome s) old.front) (runs : Runs (MayCome s) seen.front)
    (spares : (i : ℕ) → HoldsTurn i old → Spares (λ before x. TouchesNode s before x i) (length old.front) seen.front) (loaded : seen ≡ after_load seen.front old)
    (may : MayCome s old.front e) (has : HasTouched s old e) where
  grown : GrowsPast (held_by old) s old.front seen.front
  grown = past (held_by old) s old.front seen.front begins runs spares

  same : (world_at s seen.front).nodes (node_of e) ≡ (world_at s old.front).nodes (node_of e)
  same = grown.nodes (node_of e) (holds_what_it_has (node_of e) old (has (node_of e) (touches_own e (world_at s old.front))).1)

  pub still_may : MayCome s seen.front e
  still_may = enabled_as e (world_at s seen.front) (world_at s old.front) (count_at s seen.front (run_of s seen.front runs) ∙ sym (count_at s old.front (run_of s old.front runs_old))) same ∙ may

  pub still_has : (parts : ℕ) → parts ≡ s.parts → (i : ℕ) → TouchesNode s seen.front e i → (i < parts) × HasValue i seen
  still_has parts many i hit =
      let h = has i (sym (touches_as e (world_at s seen.front) (world_at s old.front) i same) ∙ hit) in
      (subst (λ k. i < k) (sym many) h.0, has_as i old seen (ap (λ (v : View). v.holds) loaded) h.1)

  pub comes : (new : View) (saw : ℕ) → saw ≡ length seen.front → length new.front ≤ 2 ^ 62 → new.front ≡ seen.front ++ e ∷ [] → new ≡ after_append seen.front e seen → ComesAt saw s e old new
  comes new saw counts limit ends appended =
      let more : length (seen.front ++ e ∷ []) ≡ length seen.front + 1 = length-append seen.front (e ∷ []) in
      let room : length seen.front < 2 ^ 62 = omega (arith, limit, ap length ends, more) in
      record {
        comes = record {
          before = seen.front;
          grows = grown;
          room = room;
          enabled = still_may;
          run = record { enabled = run_of s seen.front runs; limit = omega (arith, room) };
          front = ends;
          view = appended ∙ ap (λ (v : View). after_append seen.front e v) loaded;
        };
        at_is = counts;
      }

module _ (s : Shape) (old seen new : View) (begins : Begins old.front seen.front) (runs : Runs (MayCome s) seen.front)
    (spares : (i : ℕ) → HoldsTurn i old → Spares (λ before x. TouchesNode s before x i) (length old.front) seen.front) (loaded : seen ≡ after_load seen.front old) where
  grown_twice : (new : View) → Begins seen.front new.front → Runs (MayCome s) new.front
      → ((i : ℕ) → HoldsTurn i seen → Spares (λ before x. TouchesNode s before x i) (length seen.front) new.front) → GrowsPast (held_by old) s old.front new.front
  grown_twice new more runs_new spares_more =
      past_twice (held_by old) s old.front seen.front new.front (past (held_by old) s old.front seen.front begins runs spares)
      (past (held_by old) s seen.front new.front more runs_new (λ i holds. spares_more i (holds_as i old seen (ap (λ (v : View). v.holds) loaded) holds)))

  loaded_as : (new : View) → after_load new.front seen ≡ after_load new.front old
  loaded_as new = ap (λ (v : View). after_load new.front v) loaded

  undone_by : {V : Type 0} (shape : V → Shape) (stands : Shape → ℕ → List Event → V → Type 0) (saw : ℕ) (fault : AppendFault) → saw ≡ length seen.front
      → RefusesAppend shape (λ s front x. MayCome s front x) (λ s front x i. TouchesNode s front x i) stands s saw seen fault new → IsUndone s old (fault_of fault) new
  undone_by shape stands saw (Moved found_at found) counts refused =
      let finds = refused.2 in
      record {
        known = subst (λ k. length old.front ≤ k) (sym (refused.0 ∙ counts)) (begins_length old.front seen.front begins);
        more = subst (λ k. k < found) (sym refused.0) finds.more;
        counts = finds.counts;
        limit = refused.1;
        grows = grown_twice new finds.grows.begins finds.grows.runs finds.grows.spares;
        view = finds.view ∙ loaded_as new;
      }
  undone_by shape stands saw Spent counts finds = record { full = finds.full; grows = grown_twice new finds.begins (finds.runs runs) finds.spares; view = finds.view ∙ loaded_as new }

  pub undone : {V : Type 0} (shape : V → Shape) (stands : Shape → ℕ → List Event → V → Type 0) (saw : ℕ) (fault : AppendFault) (why : StepFault) → saw ≡ length seen.front → why ≡ fault_of fault
      → RefusesAppend shape (λ s front x. MayCome s front x) (λ s front x i. TouchesNode s front x i) stands s saw seen fault new → IsUndone s old why new
  undone shape stands saw fault why counts is refused = subst (λ k. IsUndone s old k new) (sym is) (undone_by shape stands saw fault counts refused)
