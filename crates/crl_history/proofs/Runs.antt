-- Runs from their end: what each event keeps holds after each run.
use Rattle.std.proofs.Common.{◌≡◌, ℕ, true, List, [], ◌∷◌, ◌++◌, ap, sym, ◌∙◌, subst}
use Rattle.std.proofs.lemmas.List.{append_assoc}
use Rattle.crl_model.specs.declared.event.Event.{Event}
use Rattle.crl_machine.specs.SingleMachine.{State, after_all}
use Rattle.crl_protocol.specs.World.{World, new_world, step, is_enabled, IsRunFrom, world_after, world_of, account}
use Rattle.crl_deeds.proofs.Laws.{append_nil, world_grows, account_grows}
use Rattle.crl_rounds.proofs.Laws.{after_append}

pub run_then : (w : World) (run : List Event) (e : Event) → IsRunFrom w run → is_enabled e (world_after w run) ≡ true → IsRunFrom w (run ++ e ∷ [])
run_then w [] e r may = (may, tt)
run_then w (x ∷ run) e r may = (r.0, run_then (step x w).world run e r.1 may)

-- What holds of a world and of the single machine after the account.
abbrev pub Holds : (World → State → Type 0) → ℕ → ℕ → State → List Event → Type 0
Holds P count capacity s run = P (world_of count capacity run) (after_all s (account count capacity run))

-- one event that may come keeps it
abbrev pub KeptBy : (World → State → Type 0) → ℕ → ℕ → State → Type 0
KeptBy P count capacity s = (run : List Event) (e : Event) → IsRunFrom (new_world count capacity) run → is_enabled e (world_of count capacity run) ≡ true → Holds P count capacity s run
    → P (step e (world_of count capacity run)).world (after_all (after_all s (account count capacity run)) (step e (world_of count capacity run)).entries)

one_more : (P : World → State → Type 0) (count capacity : ℕ) (s : State) → KeptBy P count capacity s → (run : List Event) (e : Event) → IsRunFrom (new_world count capacity) run → is_enabled e (world_of count capacity run) ≡ true → Holds P count capacity s run → Holds P count capacity s (run ++ e ∷ [])
one_more P count capacity s kept run e r may h =
    let w = new_world count capacity in
    let machine = ap (λ es. after_all s es) (account_grows w run e) ∙ after_append s (account count capacity run) (step e (world_of count capacity run)).entries in
    subst (λ v. P v (after_all s (account count capacity (run ++ e ∷ [])))) (sym (world_grows w run e)) (subst (λ t. P (step e (world_of count capacity run)).world t) (sym machine) (kept run e r may h))

from_here : (P : World → State → Type 0) (count capacity : ℕ) (s : State) → KeptBy P count capacity s → (before es : List Event) → IsRunFrom (new_world count capacity) before → IsRunFrom (world_of count capacity before) es → Holds P count capacity s before → Holds P count capacity s (before ++ es)
from_here P count capacity s kept before [] r more h = subst (Holds P count capacity s) (sym (append_nil before)) h
from_here P count capacity s kept before (e ∷ es) r more h =
    let w = new_world count capacity in
    subst (Holds P count capacity s) (append_assoc before (e ∷ []) es)
    (from_here P count capacity s kept (before ++ e ∷ []) es (run_then w before e r more.0) (subst (λ v. IsRunFrom v es) (sym (world_grows w before e)) more.1) (one_more P count capacity s kept before e r more.0 h))

pub runs_by_end : (P : World → State → Type 0) (count capacity : ℕ) (s : State) → KeptBy P count capacity s → P (new_world count capacity) s → (run : List Event) → IsRunFrom (new_world count capacity) run → Holds P count capacity s run
runs_by_end P count capacity s kept first run r = from_here P count capacity s kept [] run tt r first
