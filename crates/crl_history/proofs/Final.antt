-- In every run the single machine after the account mirrors the world.
use Rattle.std.proofs.Common.{◌≡◌, ℕ, ◌+◌, ◌≤◌, ◌<◌, ◌==◌, Bool, true, false, List, [], ◌∷◌, if◌then◌else◌, refl, ap, sym, ◌∙◌, subst, arith}
use Rattle.std.proofs.lemmas.Bool.{cond-true, eq-eqb, ne_eqb}
use Rattle.crl_model.specs.declared.name.Name.{Name}
use Rattle.crl_model.specs.declared.stage.Stage.TheVariants as stage
use Rattle.crl_model.specs.declared.entry.Entry.{Entry}
use Rattle.crl_model.specs.declared.entry.What.{What}
use Rattle.crl_model.specs.declared.entry.What.TheVariants as what
use Rattle.crl_model.specs.declared.event.Event.{Event}
use Rattle.crl_machine.specs.SingleMachine.{State, start, change, after, after_all}
use Rattle.crl_protocol.specs.Lifetimes.{no_lifetime}
use Rattle.crl_protocol.specs.Node.{Node, new_node, map_count}
use Rattle.crl_protocol.specs.World.{World, WorldStep, new_world, IsRunFrom, world_of, account}
use Rattle.crl_deeds.specs.Counts.{Known}
use Rattle.crl_deeds.specs.Tokens.{load}
use Rattle.crl_deeds.specs.Turns.{Turn, calls, hears}
use Rattle.crl_deeds.proofs.Laws.{turn_of, turn_count, sum_new}
use Rattle.crl_flight.specs.Flight.{Under}
use Rattle.crl_regions.specs.Steps.{RegionsHold}
use Rattle.crl_regions.specs.View.{array_of}
use Rattle.crl_regions.proofs.Laws.{regions_in_runs, array_accounted, count_in_run}
use Rattle.crl_rounds.specs.Standing.{machine_of}
use Rattle.crl_rounds.proofs.Laws.{rounds_in_runs}
use Rattle.crl_history.specs.Mirrors.{Mirrors}
use Rattle.crl_history.proofs.Events.{Mirrored, AllMirror, mirrored_event}
use Rattle.crl_history.proofs.Knows.{known_in_runs, agree_in_runs, pieces_in_runs}
use Rattle.crl_history.proofs.MapDeeds.{grants_map, nothing}
use Rattle.crl_history.proofs.Maps.{MapsMirror, granted_under_way, maps_turn}
use Rattle.crl_history.proofs.Runs.{runs_by_end}
use Rattle.crl_history.proofs.Sections.{Opened, opened_by, SaysOpened, sections_mirrored}
use Rattle.crl_history.proofs.Serials.{SaysUsed, used_by, used_mirrored}
use Rattle.crl_history.proofs.Stages.{stage_by, SaysStage, stage_mirrored, stage_elsewhere}

-- What mirrors at the start and goes with each deed mirrors in every run.
pub mirrored_run : (A : Type 0) (of : State → ℕ → A) (Says : A → Node → Type 0) → Mirrored A of Says → (count capacity : ℕ) → ((k : ℕ) → Says (of (start count) k) (new_node count capacity k)) → (run : List Event) → IsRunFrom (new_world count capacity) run
    → AllMirror A of Says (world_of count capacity run) (machine_of count capacity run)
mirrored_run A of Says m count capacity first run r =
    runs_by_end (AllMirror A of Says) count capacity (start count)
    (λ run e r may h. mirrored_event A of Says m (world_of count capacity run) e may (known_in_runs count capacity run r) (agree_in_runs count capacity run r) (machine_of count capacity run) h) (λ k few. first k) run r

pub used_first : (count capacity k : ℕ) → SaysUsed 0 (new_node count capacity k)
used_first count capacity k = record { is = refl; most = omega arith }

stage_first : (r : Name) (count capacity k : ℕ) → SaysStage r (stage_by r (start count) k) (new_node count capacity k)
stage_first r count capacity k = go (r.home == k)
  where
    go : (b : Bool) → (if b then stage.Unknown else stage.Unknown) ≡ (if b then no_lifetime else no_lifetime).stage
    go true = refl
    go false = refl

sections_first : (count capacity k : ℕ) → SaysOpened (opened_by (start count) k) (new_node count capacity k)
sections_first count capacity k = λ r. record { reads_are = refl; writes_are = refl }

-- Regions whose home is no node.
abbrev NoneElsewhere : World → State → Type 0
NoneElsewhere w s = (r : Name) → w.count ≤ r.home → s.stage r ≡ stage.Unknown

far : (j home count me : ℕ) → me ≡ j → j < count → count ≤ home → (home == me) ≡ false
far j home count me e few h = ne_eqb home me (λ x. omega arith)

elsewhere_turn : (w : World) (v : WorldStep) {e : Event} → Turn w e v → Known w → (s : State) (r : Name) → w.count ≤ r.home → s.stage r ≡ stage.Unknown → (after_all s v.entries).stage r ≡ stage.Unknown
elsewhere_turn w v (calls j c o few free may d) x s r h none = stage_elsewhere (w.nodes j) _ o d s r (far j r.home w.count (w.nodes j).me (x.fits j).me few h) ∙ none
elsewhere_turn w v (hears j place p rest parcels part o few took d) x s r h none = stage_elsewhere _ _ o d s r (far j r.home w.count (w.nodes j).me (x.fits j).me few h) ∙ none
elsewhere_turn w v _ x s r h none = none

elsewhere_run : (count capacity : ℕ) (run : List Event) → IsRunFrom (new_world count capacity) run → NoneElsewhere (world_of count capacity run) (machine_of count capacity run)
elsewhere_run count capacity run r =
    runs_by_end NoneElsewhere count capacity (start count)
    (λ run e r may h q far. (let w = world_of count capacity run in
    let t = turn_of w e may in
    let near = subst (λ k. k ≤ q.home) (turn_count w _ t) far in elsewhere_turn w _ t (known_in_runs count capacity run r) (machine_of count capacity run) q near (h q near))) (λ q far. refl) run r

-- Maps.
maps_run : (count capacity : ℕ) (run : List Event) → IsRunFrom (new_world count capacity) run → MapsMirror (world_of count capacity run) (machine_of count capacity run)
maps_run count capacity run r =
    runs_by_end MapsMirror count capacity (start count)
    (λ run e r may h i q few. (let w = world_of count capacity run in
    let t = turn_of w e may in
    maps_turn w _ t (known_in_runs count capacity run r) (pieces_in_runs count capacity run r) (machine_of count capacity run) h i q (subst (λ k. i < k) (turn_count w _ t) few)))
    (λ i q few. let none = sum_new (load (grants_map i q) nothing) count capacity (λ j. refl) in omega arith) run r

-- No entry changes how many nodes there are.
pub change_nodes : (s : State) (n : ℕ) (w : What) → (change s n w).nodes ≡ s.nodes
change_nodes s n (what.Flush name) = refl
change_nodes s n _ = refl

pub all_nodes : (s : State) (es : List Entry) → (after_all s es).nodes ≡ s.nodes
all_nodes s [] = refl
all_nodes s (e ∷ es) = all_nodes (after s e) es ∙ change_nodes s e.node e.what

-- Bytes.
bytes_run : (count capacity : ℕ) (run : List Event) → IsRunFrom (new_world count capacity) run → (us : List Under) × RegionsHold (world_of count capacity run) us (machine_of count capacity run).bytes
bytes_run count capacity run r =
    let h = regions_in_runs count capacity run r in
    let same : (machine_of count capacity run).bytes ≡ (λ name. array_of name count capacity run) = λ i name. array_accounted count capacity run name i in
    (h.0, subst (λ f. RegionsHold (world_of count capacity run) h.0 f) (sym same) h.1)

pub mirrors_in_runs : (count capacity : ℕ) (run : List Event) → IsRunFrom (new_world count capacity) run → Mirrors (world_of count capacity run) (machine_of count capacity run)
mirrors_in_runs count capacity run r =
    let w = world_of count capacity run in
    let s = machine_of count capacity run in
    let used = mirrored_run ℕ used_by SaysUsed used_mirrored count capacity (used_first count capacity) run r in
    let sections = mirrored_run Opened opened_by SaysOpened sections_mirrored count capacity (sections_first count capacity) run r in
    record {
      nodes = all_nodes (start count) (account count capacity run) ∙ sym (count_in_run count capacity run r);
      stage = λ q few. sym (cond-true (q.home == q.home) _ _ (eq-eqb q.home q.home refl)) ∙ mirrored_run _ (stage_by q) (SaysStage q) (stage_mirrored q) count capacity (stage_first q count capacity) run r q.home few;
      elsewhere = elsewhere_run count capacity run r;
      used = λ n few. (used n few).is;
      maps = λ n q few. maps_run count capacity run r n q few ∙ ap (λ x. map_count ((w.nodes n).maps q) + x) (granted_under_way n q w);
      reads = λ n q few. (sections n few q).reads_are;
      writes = λ n q few. (sections n few q).writes_are;
      bytes = bytes_run count capacity run r;
      rounds = rounds_in_runs count capacity run r;
    }
