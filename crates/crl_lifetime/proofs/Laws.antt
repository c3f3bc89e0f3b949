-- What the crates above may cite of the proofs here: maps and deletes in every run.
use Rattle.std.proofs.Common.{◌≡◌, ℕ, ◌≤◌, ◌<◌, ◌==◌, true, false, List, [], refl, ap, sym, ◌∙◌, subst}
use Rattle.std.proofs.lemmas.Bool.{cond_both}
use Rattle.crl_model.specs.declared.name.Name.{Name}
use Rattle.crl_model.specs.declared.stage.Stage.TheVariants as stage
use Rattle.crl_model.specs.declared.event.Event.{Event}
use Rattle.crl_protocol.specs.Parcels.{Piece}
use Rattle.crl_protocol.specs.Places.{Took}
use Rattle.crl_protocol.specs.Lifetimes.{Lifetime}
use Rattle.crl_protocol.specs.Node.{is_mine}
use Rattle.crl_protocol.specs.World.{new_world, step, is_enabled, IsRunFrom, world_of, pieces_in_boxes}
use Rattle.crl_lifetime.specs.Lifetime.{StageMoves, home_stage, waits_for_map, waits_for_delete, WaitsHaveOne, HomeAgrees, OwnAgrees, NodeAgrees, MessageFits}
use Rattle.crl_lifetime.proofs.Pairs.{Followed, followed_start, followed_run}
use Rattle.crl_lifetime.proofs.Sizes.{sizes_agree}
use Rattle.crl_lifetime.proofs.Stages.{created_have_tables, moved_step}
use Rattle.crl_lifetime.proofs.Standing.{stage_past, waits_stand, home_stands, own_stands, node_stands, message_stands, nothing_waits}
use Rattle.crl_deeds.proofs.Laws.{run_count}
pub use Rattle.crl_lifetime.proofs.Tables.{serve_size, starts_size, ends_size, serves_size}

followed : (count capacity : ℕ) (run : List Event) → IsRunFrom (new_world count capacity) run → Followed (world_of count capacity run)
followed count capacity run h = followed_run run (new_world count capacity) h (followed_start count capacity)

in_world : (count capacity : ℕ) (run : List Event) (n : ℕ) → IsRunFrom (new_world count capacity) run → n < count → n < (world_of count capacity run).count
in_world count capacity run n h few = subst (λ k. n < k) (sym (run_count (new_world count capacity) run h)) few

pub stages_move : (count capacity : ℕ) (run : List Event) (e : Event) (r : Name) → IsRunFrom (new_world count capacity) run → is_enabled e (world_of count capacity run) ≡ true
    → StageMoves (home_stage r (world_of count capacity run)) (home_stage r (step e (world_of count capacity run)).world)
stages_move count capacity run e r h may = moved_step (world_of count capacity run) e r may (followed count capacity run h)

pub stages_nowhere : (count capacity : ℕ) (run : List Event) (r : Name) → IsRunFrom (new_world count capacity) run → count ≤ r.home → home_stage r (world_of count capacity run) ≡ stage.Unknown
stages_nowhere count capacity run r h far = stage_past (world_of count capacity run) r (followed count capacity run h).held (subst (λ k. k ≤ r.home) (sym (run_count (new_world count capacity) run h)) far)

pub stages_without_serial : (count capacity : ℕ) (run : List Event) (r : Name) → IsRunFrom (new_world count capacity) run → r.serial ≡ 0 → home_stage r (world_of count capacity run) ≡ stage.Unknown
stages_without_serial count capacity run r h none =
    let home = (world_of count capacity run).nodes r.home in
    cond_both (is_mine home r) _ _ (λ (l : Lifetime). l.stage ≡ stage.Unknown) (λ e. ap (λ s. (home.lifetimes s).stage) none ∙ ((followed count capacity run h).held r.home).node.zero) (λ e. refl)

pub waits_in_runs : (count capacity : ℕ) (run : List Event) (n : ℕ) (r : Name) → IsRunFrom (new_world count capacity) run → n < count → WaitsHaveOne n r (world_of count capacity run)
waits_in_runs count capacity run n r h few = waits_stand (world_of count capacity run) n r (in_world count capacity run n h few) (followed count capacity run h)

pub homes_in_runs : (count capacity : ℕ) (run : List Event) (r : Name) → IsRunFrom (new_world count capacity) run → HomeAgrees r (world_of count capacity run)
homes_in_runs count capacity run r h = home_stands (world_of count capacity run) r (followed count capacity run h) (created_have_tables count capacity run r h)

pub own_in_runs : (count capacity : ℕ) (run : List Event) (r : Name) → IsRunFrom (new_world count capacity) run → r.home < count → OwnAgrees r (world_of count capacity run)
own_in_runs count capacity run r h few = own_stands (world_of count capacity run) r (in_world count capacity run r.home h few) (followed count capacity run h)

pub nodes_in_runs : (count capacity : ℕ) (run : List Event) (n : ℕ) (r : Name) → IsRunFrom (new_world count capacity) run → n < count → (r.home == n) ≡ false → NodeAgrees r n (world_of count capacity run)
nodes_in_runs count capacity run n r h few apart =
    let x = followed count capacity run h in
    node_stands (world_of count capacity run) r n x (x.pairs r n (in_world count capacity run n h few) apart) (created_have_tables count capacity run r h) (sizes_agree count capacity run h r n apart)

pub messages_in_runs : (count capacity : ℕ) (run : List Event) (p : Piece) (rest : List Piece) → IsRunFrom (new_world count capacity) run → Took p (pieces_in_boxes (world_of count capacity run)) rest → MessageFits (world_of count capacity run) p.message
messages_in_runs count capacity run p rest h took = message_stands (world_of count capacity run) (followed count capacity run h) p rest took

pub quiet_in_runs : (count capacity : ℕ) (run : List Event) (n : ℕ) (r : Name) → IsRunFrom (new_world count capacity) run → n < count → pieces_in_boxes (world_of count capacity run) ≡ []
    → (waits_for_map r ((world_of count capacity run).nodes n).activity ≡ false) × (waits_for_delete r ((world_of count capacity run).nodes n).activity ≡ false)
quiet_in_runs count capacity run n r h few empty = nothing_waits (world_of count capacity run) (followed count capacity run h) empty n r (in_world count capacity run n h few)
