-- Each run's account is a legal history.
use Rattle.std.proofs.Common.{◌≡◌, ℕ, ◌<◌, ◌≤◌, true, List, [], ◌∷◌, ◌++◌, ap, sym, ◌∙◌, subst}
use Rattle.std.proofs.Math.Logic.{◌⊎◌, inl, inr}
use Rattle.crl_model.specs.declared.name.Name.{Name}
use Rattle.crl_model.specs.declared.stage.Stage.TheVariants as stage
use Rattle.crl_model.specs.declared.entry.Entry.{Entry}
use Rattle.crl_model.specs.declared.event.Event.{Event}
use Rattle.crl_machine.specs.SingleMachine.{State, IsHistory, start, after, after_all}
use Rattle.crl_protocol.specs.World.{new_world, world_of, account, account_from, step, is_enabled, IsRunFrom}
use Rattle.crl_deeds.proofs.Laws.{turn_of, decided, world_grows, account_grows}
use Rattle.crl_lifetime.specs.Lifetime.{home_stage}
use Rattle.crl_lifetime.proofs.Laws.{stages_nowhere, stages_without_serial, waits_in_runs, own_in_runs, nodes_in_runs, messages_in_runs}
use Rattle.crl_regions.specs.Reached.{WriteSectionsAreAlone}
use Rattle.crl_regions.proofs.Laws.{count_in_run, write_alone}
use Rattle.crl_rounds.specs.Standing.{machine_of, InEveryRun}
use Rattle.crl_rounds.proofs.Laws.{entries_fit, after_append}
use Rattle.crl_history.specs.Legal.{EngagedNodesWait, EntriesAreLegal}
use Rattle.crl_history.proofs.Final.{mirrored_run, used_first, mirrors_in_runs}
use Rattle.crl_history.proofs.Grounds.{Ground, engaged_waits}
use Rattle.crl_history.proofs.Knows.{known_in_runs, agree_in_runs}
use Rattle.crl_history.proofs.LegalEvents.{turn_legal}
use Rattle.crl_history.proofs.Runs.{run_then}
use Rattle.crl_history.proofs.Serials.{SaysUsed, used_by, used_mirrored}

none_there : (count capacity : ℕ) (run : List Event) → IsRunFrom (new_world count capacity) run → (q : Name) → ((world_of count capacity run).count ≤ q.home) ⊎ (q.serial ≡ 0) → home_stage q (world_of count capacity run) ≡ stage.Unknown
none_there count capacity run r q (inl far) = stages_nowhere count capacity run q r (subst (λ c. c ≤ q.home) (count_in_run count capacity run r) far)
none_there count capacity run r q (inr zero) = stages_without_serial count capacity run q r zero

pub ground_in_runs : (count capacity : ℕ) (run : List Event) → IsRunFrom (new_world count capacity) run → Ground (world_of count capacity run) (machine_of count capacity run)
ground_in_runs count capacity run r =
    let near : (i : ℕ) → i < (world_of count capacity run).count → i < count = λ i few. subst (λ c. i < c) (count_in_run count capacity run r) few in
    record {
      known = known_in_runs count capacity run r;
      agree = agree_in_runs count capacity run r;
      mirrors = mirrors_in_runs count capacity run r;
      used = λ i few. (mirrored_run ℕ used_by SaysUsed used_mirrored count capacity (used_first count capacity) run r i few).most;
      nowhere = none_there count capacity run r;
      waits = λ i q few. waits_in_runs count capacity run i q r (near i few);
      own = λ q few. own_in_runs count capacity run q r (near q.home few);
      other = λ i q few apart. nodes_in_runs count capacity run i q r (near i few) apart;
      messages = λ p rest took. messages_in_runs count capacity run p rest r took;
    }

pub engaged_in_runs : InEveryRun EngagedNodesWait
engaged_in_runs count capacity run r i few e = engaged_waits (world_of count capacity run) (machine_of count capacity run) i (ground_in_runs count capacity run r) few e

-- an event after a run makes a run
more_run : (count capacity : ℕ) (run : List Event) (e : Event) → IsRunFrom (new_world count capacity) run → is_enabled e (world_of count capacity run) ≡ true → IsRunFrom (new_world count capacity) (run ++ e ∷ [])
more_run count capacity run e r may = run_then (new_world count capacity) run e r may

step_legal : (count capacity : ℕ) (run : List Event) (e : Event) → IsRunFrom (new_world count capacity) run → is_enabled e (world_of count capacity run) ≡ true → IsHistory (machine_of count capacity run) (step e (world_of count capacity run)).entries
step_legal count capacity run e r may =
    let w = world_of count capacity run in
    turn_legal w (step e w) (machine_of count capacity run) (turn_of w e may) (ground_in_runs count capacity run r)
    (subst WriteSectionsAreAlone (world_grows (new_world count capacity) run e) (write_alone count capacity (run ++ e ∷ []) (more_run count capacity run e r may))) (entries_fit count capacity run r e may)

pub entries_legal : InEveryRun EntriesAreLegal
entries_legal count capacity run r e may = subst (λ es. IsHistory (machine_of count capacity run) es) (decided e (world_of count capacity run)) (step_legal count capacity run e r may)

history_both : (s : State) (xs ys : List Entry) → IsHistory s xs → IsHistory (after_all s xs) ys → IsHistory s (xs ++ ys)
history_both s [] ys h k = k
history_both s (x ∷ xs) ys h k = (h.0, history_both (after s x) xs ys h.1 k)

-- the machine after one event more
pub machine_then : (count capacity : ℕ) (run : List Event) (e : Event) → machine_of count capacity (run ++ e ∷ []) ≡ after_all (machine_of count capacity run) (step e (world_of count capacity run)).entries
machine_then count capacity run e =
    ap (λ es. after_all (start count) es) (account_grows (new_world count capacity) run e) ∙ after_append (start count) (account count capacity run) (step e (world_of count capacity run)).entries

history_from : (count capacity : ℕ) (before es : List Event) → IsRunFrom (new_world count capacity) before → IsRunFrom (world_of count capacity before) es → IsHistory (machine_of count capacity before) (account_from (world_of count capacity before) es)
history_from count capacity before [] r more = tt
history_from count capacity before (e ∷ es) r more =
    let w = world_of count capacity before in
    let next = world_grows (new_world count capacity) before e in
    let rest = history_from count capacity (before ++ e ∷ []) es (more_run count capacity before e r more.0) (subst (λ v. IsRunFrom v es) (sym next) more.1) in
    history_both (machine_of count capacity before) (step e w).entries (account_from (step e w).world es) (step_legal count capacity before e r more.0)
    (subst (λ s. IsHistory s (account_from (step e w).world es)) (machine_then count capacity before e) (subst (λ v. IsHistory (machine_of count capacity (before ++ e ∷ [])) (account_from v es)) next rest))

pub accounts_legal : (count capacity : ℕ) (run : List Event) → IsRunFrom (new_world count capacity) run → IsHistory (start count) (account count capacity run)
accounts_legal count capacity run r = history_from count capacity [] run tt r
