-- The steps, as the calls ask for them: what a step tells is of the shape that the caller names.
use Rattle.std.proofs.Common.{◌≡◌, ℕ, ◌+◌, ◌^◌, ◌<◌, ◌≤◌, ◌==◌, List, [], ◌∷◌, ◌++◌, length, sym, subst, Option, Some, None}
use mathlib.Core.Option as maybe
use prog.Atomic.{either}
use Rattle.atomic_table.specs.Table.{State, Me, step, Allows}
use Rattle.crl_model.specs.declared.event.Event.{Event}
use Rattle.crl_turns.specs.declared.turned.Shape.{Shape}
use Rattle.crl_turns.specs.declared.view.Place.TheVariants.{Full, Drawn, Empty}
use Rattle.crl_turns.specs.declared.view.View.{View}
use Rattle.crl_turns.specs.Rule.{value_place, StandsFor, TurnRule}
use Rattle.crl_turns.specs.Plays.{OnLoad, OnLeave, OnDraw, OnFree, OnTake, OnGrab, OnAppend, OnCatchUp}
use Rattle.crl_turns.proofs.WordSteps.{sees, leaves, draws, releases, grabs, takes_turn, catches, frees, appends}

module _ {V : Type 0} (shape : V → Shape) (enabled : Shape → List Event → Event → Type 0) (touches : Shape → List Event → Event → ℕ → Type 0) (stands : Shape → ℕ → List Event → V → Type 0) (key : Shape) where
  abbrev pub Keeps : State (Option V) View → Type 0
  Keeps = TurnRule (enabled key) (touches key) (StandsFor shape stands key)

  module _ (s : Shape) (same : s ≡ key) (slots id : ℕ) where
    pub sees_as : (m : Me (Option V) View) → Allows Keeps slots id m 0 (λ n. n) (OnLoad (enabled s) (touches s) (step slots 0 0 0 maybe.none) m)
    sees_as m = subst (λ k. Allows Keeps slots id m 0 (λ n. n) (OnLoad (enabled k) (touches k) (step slots 0 0 0 maybe.none) m)) (sym same)
        (sees (enabled key) (touches key) (StandsFor shape stands key) slots id m.0 m.1)

    pub catches_as : (m : Me (Option V) View) → length m.0.known ≤ length m.0.front → length m.0.met ≤ length m.0.front → Allows Keeps slots id m 0 (λ n. n) (OnCatchUp (enabled s) (touches s) (step slots 0 0 0 maybe.none) m)
    catches_as m le met_le = subst (λ k. Allows Keeps slots id m 0 (λ n. n) (OnCatchUp (enabled k) (touches k) (step slots 0 0 0 maybe.none) m)) (sym same)
        (catches (enabled key) (touches key) (StandsFor shape stands key) slots id m.0 m.1 le met_le)

    pub takes_as : (m : Me (Option V) View) (i : ℕ) → i < slots → m.1 ≡ []
        → Allows Keeps slots id m (i + 1) (λ n. either (n == 0) 1 n) (OnTake (enabled s) (touches s) (StandsFor shape stands s) (step slots (i + 1) 0 1 maybe.none) m)
    takes_as m i lt bare = subst (λ (p : Shape × List (ℕ × Option V)). Allows Keeps slots id (m.0, p.1) (i + 1) (λ n. either (n == 0) 1 n) (OnTake (enabled p.0) (touches p.0) (StandsFor shape stands p.0) (step slots (i + 1) 0 1 maybe.none) (m.0, p.1)))
        (λ k. (sym same k, sym bare k))
        (takes_turn (enabled key) (touches key) (StandsFor shape stands key) slots id m.0 i lt)

    pub grabs_as : (m : Me (Option V) View) (i : ℕ) → i < slots
        → Allows Keeps slots id m (i + 1) (λ n. either (n == 0) 1 n) (OnGrab (enabled s) (touches s) (step slots (i + 1) 0 1 maybe.none) m)
    grabs_as m i lt = subst (λ k. Allows Keeps slots id m (i + 1) (λ n. either (n == 0) 1 n) (OnGrab (enabled k) (touches k) (step slots (i + 1) 0 1 maybe.none) m)) (sym same)
        (grabs (enabled key) (touches key) (StandsFor shape stands key) slots id m.0 m.1 i lt)

    pub leaves_as : (m : Me (Option V) View) (i : ℕ) → i < slots → m.1 ≡ (i, None) ∷ [] → value_place i m.0.holds ≡ Drawn
        → Allows Keeps slots id m 0 (λ n. n) (OnLeave (enabled s) (touches s) (step slots 0 0 0 maybe.none) m)
    leaves_as m i lt slot place = subst (λ (p : Shape × List (ℕ × Option V)). Allows Keeps slots id (m.0, p.1) 0 (λ n. n) (OnLeave (enabled p.0) (touches p.0) (step slots 0 0 0 maybe.none) (m.0, p.1)))
        (λ k. (sym same k, sym slot k))
        (leaves (enabled key) (touches key) (StandsFor shape stands key) slots id m.0 i lt place)

  module _ (slots id : ℕ) where
    pub draws_as : (m : Me (Option V) View) (i : ℕ) → i < slots → m.1 ≡ [] → value_place i m.0.holds ≡ Empty → Allows Keeps slots id m (i + 1) (λ n. n) (OnDraw (step slots (i + 1) 0 0 maybe.none) m)
    draws_as m i lt bare place = subst (λ (c : List (ℕ × Option V)). Allows Keeps slots id (m.0, c) (i + 1) (λ n. n) (OnDraw (step slots (i + 1) 0 0 maybe.none) (m.0, c))) (sym bare)
        (draws (enabled key) (touches key) (StandsFor shape stands key) slots id m.0 i lt place)

  module _ (slots id : ℕ) where
    pub releases_as : (m : Me (Option V) View) (i : ℕ) → i < slots → m.1 ≡ [] → value_place i m.0.holds ≡ Full → Allows Keeps slots id m (i + 1) (λ n. 0) (λ n. OnFree (step slots (i + 1) 0 0 maybe.none) m 0)
    releases_as m i lt bare place = subst (λ (c : List (ℕ × Option V)). Allows Keeps slots id (m.0, c) (i + 1) (λ n. 0) (λ n. OnFree (step slots (i + 1) 0 0 maybe.none) (m.0, c) 0)) (sym bare)
        (releases (enabled key) (touches key) (StandsFor shape stands key) slots id m.0 i lt place)

  module _ (stays : (s : Shape) (i : ℕ) (front : List Event) (e : Event) (x : V) → stands s i front x → enabled s front e → (touches s front e i → ⊥) → stands s i (front ++ e ∷ []) x) where
    still_fits : (i : ℕ) (front : List Event) (e : Event) (x : V) → StandsFor shape stands key i front x → enabled key front e → (touches key front e i → ⊥) → StandsFor shape stands key i (front ++ e ∷ []) x
    still_fits i front e x is may out = (is.0, stays key i front e x is.1 may out)

    pub frees_as : (slots id : ℕ) (m : Me (Option V) View) (i : ℕ) (x : V) → i < slots → value_place i m.0.holds ≡ Drawn → m.0.known ≡ m.0.front → m.1 ≡ (i, Some x) ∷ [] → StandsFor shape stands key i m.0.front x
        → Allows Keeps slots id m (i + 1) (λ n. 0) (λ n. OnFree (step slots (i + 1) 0 0 maybe.none) m 0)
    frees_as slots id m i x lt place level slot is = subst (λ (c : List (ℕ × Option V)). Allows Keeps slots id (m.0, c) (i + 1) (λ n. 0) (λ n. OnFree (step slots (i + 1) 0 0 maybe.none) (m.0, c) 0)) (sym slot)
        (frees (enabled key) (touches key) (StandsFor shape stands key) still_fits slots id m.0 i x lt place level is)

    pub appends_as : (s : Shape) (same : s ≡ key) (slots id : ℕ) (m : Me (Option V) View) (saw : ℕ) (e : Event) → saw ≡ length m.0.front → enabled s m.0.front e
        → ((i : ℕ) → touches s m.0.front e i → (i < slots) × (value_place i m.0.holds ≡ Empty)) → saw < 2 ^ 62
        → Allows Keeps slots id m 0 (λ n. either (n == saw) (saw + 1) n) (OnAppend (enabled s) (touches s) e (step slots 0 saw (saw + 1) maybe.none) m)
    appends_as s same slots id m saw e is_saw = subst
        (λ k. enabled k m.0.front e → ((i : ℕ) → touches k m.0.front e i → (i < slots) × (value_place i m.0.holds ≡ Empty)) → saw < 2 ^ 62
        → Allows Keeps slots id m 0 (λ n. either (n == saw) (saw + 1) n) (OnAppend (enabled k) (touches k) e (step slots 0 saw (saw + 1) maybe.none) m)) (sym same)
        (appends (enabled key) (touches key) (StandsFor shape stands key) still_fits slots id m.0 m.1 saw e is_saw)
