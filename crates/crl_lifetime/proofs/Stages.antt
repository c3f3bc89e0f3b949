-- Where a region stands in a run: how its stage moves, and that a region that was created has a table.
use Rattle.std.proofs.Common.{◌≡◌, ℕ, ◌==◌, true, None, Some, Option, List, [], ◌∷◌, refl, sym, subst}
use Rattle.std.proofs.lemmas.Bool.{cond_both, eq-eqb}
use Rattle.crl_model.specs.declared.name.Name.{Name}
use Rattle.crl_model.specs.declared.stage.Stage.{Stage}
use Rattle.crl_model.specs.declared.stage.Stage.TheVariants as stage
use Rattle.crl_model.specs.declared.event.Event.{Event}
use Rattle.crl_model.specs.declared.event.Event.TheVariants as event
use Rattle.crl_protocol.specs.Home.{Home}
use Rattle.crl_protocol.specs.Lifetimes.{Lifetime}
use Rattle.crl_protocol.specs.Node.{Node, home_of, lifetime_of}
use Rattle.crl_protocol.specs.World.{World, WorldStep, new_world, step, is_enabled, IsRunFrom, world_after}
use Rattle.crl_deeds.specs.Counts.{Known}
use Rattle.crl_deeds.specs.NodeFacts.{LiveFits}
use Rattle.crl_deeds.specs.Turns.{Turn, calls, hears, gathers, answers, carriage, Held}
use Rattle.crl_deeds.proofs.Laws.{here_if, each_at, turn_of}
use Rattle.crl_lifetime.specs.Lifetime.{StageMoves, stays, created, begins, deleted, ends, home_stage, home_table}
use Rattle.crl_lifetime.proofs.Lived.{Lived, Spoken}
use Rattle.crl_lifetime.proofs.Moving.{moved_deed}
use Rattle.crl_lifetime.proofs.Tables.{SameTable, table_deed}
use Rattle.crl_lifetime.proofs.Pairs.{carried_at, Followed, followed_step, followed_start}

-- from one node to the same after a turn
pub record Moved (r : Name) (n m : Node) : Type 0 where
  pub stage : StageMoves (lifetime_of n r).stage (lifetime_of m r).stage
  pub table : SameTable (home_of n r) (home_of m r)

still : (r : Name) (n : Node) → Moved r n n
still r n = record { stage = stays; table = λ h e. (h, e, refl) }

moved_turn : (w : World) (v : WorldStep) (r : Name) → {e : Event} → Turn w e v → Held (Lived w.count) (Spoken w.count) w → (j : ℕ) → Moved r (w.nodes j) (v.world.nodes j)
moved_turn w v r (calls i c o few free may d) held =
    each_at (λ k y. Moved r (w.nodes k) y) w.nodes i _ (λ k. still r (w.nodes k)) (record { stage = moved_deed _ _ o d (held i).node.none r; table = table_deed r _ _ o d })
moved_turn w v r (hears i place p rest parcels part o few took d) held =
    each_at (λ k y. Moved r (w.nodes k) y) w.nodes i _ (λ k. still r (w.nodes k)) (record { stage = moved_deed _ _ o d (held i).node.none r; table = table_deed r _ _ o d })
moved_turn w v r (gathers i place p rest parcels key few took keyed) held = each_at (λ k y. Moved r (w.nodes k) y) w.nodes i _ (λ k. still r (w.nodes k)) (record { stage = stays; table = λ h e. (h, e, refl) })
moved_turn w v r (answers i answer few ready) held = each_at (λ k y. Moved r (w.nodes k) y) w.nodes i _ (λ k. still r (w.nodes k)) (record { stage = stays; table = λ h e. (h, e, refl) })
moved_turn w v r (carriage i place p rest few took) held = λ j.
    let a = carried_at (λ n. (lifetime_of n r).stage) w i (event.Carry i place) p rest (λ n. refl) refl j in
    let b = carried_at (λ n. home_of n r) w i (event.Carry i place) p rest (λ n. refl) refl j in
    record { stage = subst (λ s. StageMoves (lifetime_of (w.nodes j) r).stage s) (sym a) stays; table = subst (SameTable (home_of (w.nodes j) r)) (sym b) (λ h e. (h, e, refl)) }

pub moved_step : (w : World) (e : Event) (r : Name) → is_enabled e w ≡ true → Followed w → StageMoves (home_stage r w) (home_stage r (step e w).world)
moved_step w e r may x = (moved_turn w _ r (turn_of w e may) x.held r.home).stage

-- A region that was created has a table.
abbrev pub HasTable : Stage → Option Home → Type 0
HasTable s o = (s ≡ stage.Unknown → ⊥) → (h : Home) × (o ≡ Some h)

kept : (o p : Option Home) → SameTable o p → (h : Home) × (o ≡ Some h) → (h : Home) × (p ≡ Some h)
kept o p same there = let t = same there.0 there.1 in (t.0, t.1)

live_table : (o : Option Home) → LiveFits stage.Live o → (h : Home) × (o ≡ Some h)
live_table None f = absurd f
live_table (Some h) f = (h, refl)

table_moves : (s t : Stage) (o p : Option Home) → StageMoves s t → SameTable o p → LiveFits t p → HasTable s o → HasTable t p
table_moves s t o p stays same live had k = kept o p same (had k)
table_moves s t o p created same live had k = live_table p live
table_moves s t o p (begins deleter) same live had k = kept o p same (had (λ e. cc))
table_moves s t o p deleted same live had k = kept o p same (had (λ e. cc))
table_moves s t o p (ends deleter) same live had k = kept o p same (had (λ e. cc))

live_in : (w : World) (r : Name) → Known w → LiveFits (home_stage r w) (home_table r w)
live_in w r x = (here_if r.home (w.nodes r.home) r (eq-eqb r.home (w.nodes r.home).me (sym (x.fits r.home).me)) (x.fits r.home)).live

table_run : (es : List Event) (w : World) (r : Name) → IsRunFrom w es → Followed w → HasTable (home_stage r w) (home_table r w) → HasTable (home_stage r (world_after w es)) (home_table r (world_after w es))
table_run [] w r h x t = t
table_run (e ∷ es) w r h x t =
    let y = followed_step w e h.0 x in
    let m = moved_turn w _ r (turn_of w e h.0) x.held r.home in
    table_run es (step e w).world r h.1 y (table_moves (home_stage r w) _ _ _ m.stage m.table (live_in (step e w).world r y.known) t)

pub created_have_tables : (count capacity : ℕ) (run : List Event) (r : Name) → IsRunFrom (new_world count capacity) run → HasTable (home_stage r (world_after (new_world count capacity) run)) (home_table r (world_after (new_world count capacity) run))
created_have_tables count capacity run r h = table_run run (new_world count capacity) r h (followed_start count capacity)
    (λ made. absurd (made (cond_both (r.home == r.home) _ _ (λ (l : Lifetime). l.stage ≡ stage.Unknown) (λ w. refl) (λ w. refl))))
