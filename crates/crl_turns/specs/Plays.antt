-- What each kind of atomic step tells its pass, and how views are cut in two and joined.
-- Who may add to `tried` and `splits`, and when, is said here alone: the rule says nothing of them.
use Rattle.std.specs.Prelude.{◌≡◌, ◌≢◌, ℕ, ◌+◌, ◌-◌, ◌^◌, ◌≤◌, nat_lt, ◌⊎◌, Bool, true, false, List, [], ◌∷◌, ◌++◌, length, None, Some, Option}
use Rattle.atomic_table.specs.Table.{Me, Step, rest}
use Rattle.crl_model.specs.declared.event.Event.{Event}
use Rattle.crl_turns.specs.declared.view.Place.{Place}
use Rattle.crl_turns.specs.declared.view.Place.TheVariants.{Free, Full, Drawn, Empty}
use Rattle.crl_turns.specs.declared.view.Holding.{Holding}
use Rattle.crl_turns.specs.declared.view.Try.{Try}
use Rattle.crl_turns.specs.declared.view.View.{View}
use Rattle.crl_turns.specs.Fronts.{Begins, Runs, Spares, longer_by}
use Rattle.crl_turns.specs.Rule.{HoldsTurn}

abbrev pub with_holding : ℕ → Place → List Holding → List Holding
with_holding part place holds = record { part = part; place = place } ∷ holds

abbrev pub attempt : ℕ → Bool → List Try
attempt part got = record { part = part; got = got } ∷ []

-- the view of a pass that has done nothing and seen nothing, and of one that was spent in a join
abbrev pub blank_view : View
blank_view = record { front = []; known = []; met = []; own = []; tried = []; splits = 0; holds = [] }

-- the view of a seat, which a badge keeps in a list
abbrev pub only_view : List View → View
only_view [] = blank_view
only_view (view ∷ views) = view

-- the count was loaded, when the history was the log
abbrev pub after_load : List Event → View → View
after_load log view = record view { front = log; known = log }

-- the value of the part is there from now on
abbrev pub with_place : ℕ → Place → View → View
with_place part place view = record view { holds = with_holding part place view.holds }

-- the turn of the part was tried, and got or not
abbrev pub after_try : ℕ → Bool → View → View
after_try part got view = record view { tried = view.tried ++ attempt part got }

-- the turn of the part was got, when the history was the log
abbrev pub after_grab : ℕ → Place → List Event → View → View
after_grab part place log view = record view { known = log; tried = view.tried ++ attempt part true; holds = with_holding part place view.holds }

-- the event was appended behind the log
abbrev pub after_append : List Event → Event → View → View
after_append log event view = record view { front = log ++ event ∷ []; known = log ++ event ∷ []; own = view.own ++ length log ∷ [] }

-- the part whose turn the word is
abbrev pub part_of_word : ℕ → ℕ
part_of_word word = word - 1

abbrev pub longer : List Event → List Event → List Event
longer first second = longer_by (nat_lt (length first) (length second)) first second

-- A pass was split: what is left of it, and the new one, which has the same front and has done nothing.
abbrev pub after_split : View → View
after_split view = record view { splits = view.splits + 1 }

abbrev pub split_view : View → View
split_view view = record { front = view.front; known = view.front; met = []; own = []; tried = []; splits = 0; holds = [] }

-- The second was joined to the first, which keeps its own turns, tries and splits.
abbrev pub after_join : View → View → View
after_join view other = record view { front = longer view.front other.front; met = other.front; own = view.own ++ other.own }

-- the count was loaded, to learn only what came before the front
abbrev pub after_catch_up : View → View
after_catch_up view = record view { known = view.front }

-- the slot that a seat took last
abbrev pub first_slot : {V : Type 0} → List (ℕ × V) → ℕ
first_slot [] = 0
first_slot (slot ∷ slots) = slot.0

-- In what follows old and new are a seat's view and the slots that it has, and found is what the word was.
module _ {V : Type 0} where
  -- a load of the turn of a part by its holder, which takes the empty slot
  abbrev pub OnDraw : Step (Option V) → Me (Option V) View → ℕ → Me (Option V) View → Type 0
  OnDraw step old found new = new ≡ (with_place (part_of_word step.word) Drawn old.0, (part_of_word step.word, None) ∷ old.1)

  -- a turn is set to 0; a slot that the seat has goes home
  abbrev pub OnFree : Step (Option V) → Me (Option V) View → ℕ → Me (Option V) View → Type 0
  OnFree step old found new = new ≡ (with_place (part_of_word step.word) Free old.0, rest old.1)

module _ (enabled : List Event → Event → Type 0) (touches : List Event → Event → ℕ → Type 0) where
  -- The log is a run that begins with what the pass knew. What came since touches no part whose turn it holds.
  pub record Learns (view : View) (log : List Event) : Type 0 where
    pub runs : Runs enabled log
    pub limit : length log ≤ 2 ^ 62
    pub front : Begins view.front log
    pub known : Begins view.known log
    pub spares : (part : ℕ) → HoldsTurn part view → Spares (λ before event. touches before event part) (length view.known) log

  module _ {V : Type 0} where
    -- a load of the count
    abbrev pub OnLoad : Step (Option V) → Me (Option V) View → ℕ → Me (Option V) View → Type 0
    OnLoad step old found new = (log : List Event) × (length log ≡ found) × Learns old.0 log × (new ≡ (after_load log old.0, old.1))

    -- the same, at which the empty slot goes home
    abbrev pub OnLeave : Step (Option V) → Me (Option V) View → ℕ → Me (Option V) View → Type 0
    OnLeave step old found new = (log : List Event) × (length log ≡ found) × Learns old.0 log × (new ≡ (with_place (first_slot old.1) Empty (after_load log old.0), rest old.1))

    -- an exchange of a turn from 0 to 1, which takes the slot where the turn was in
    abbrev pub OnTake : (ℕ → List Event → V → Type 0) → Step (Option V) → Me (Option V) View → ℕ → Me (Option V) View → Type 0
    OnTake stands step old found new =
        ((found ≡ 0) × ((log : List Event) × (value : V) × Learns old.0 log × stands (part_of_word step.word) log value × (new ≡ (after_grab (part_of_word step.word) Drawn log old.0, (part_of_word step.word, Some value) ∷ old.1))))
        ⊎ ((found ≡ 1) × (new ≡ (after_try (part_of_word step.word) false old.0, old.1)))

    -- the same, where the slot stays at home
    abbrev pub OnGrab : Step (Option V) → Me (Option V) View → ℕ → Me (Option V) View → Type 0
    OnGrab step old found new =
        ((found ≡ 0) × ((log : List Event) × Learns old.0 log × (new ≡ (after_grab (part_of_word step.word) Full log old.0, old.1))))
        ⊎ ((found ≡ 1) × (new ≡ (after_try (part_of_word step.word) false old.0, old.1)))

    -- an exchange of the count, which appends the event where the count is the one that was seen
    abbrev pub OnAppend : Event → Step (Option V) → Me (Option V) View → ℕ → Me (Option V) View → Type 0
    OnAppend event step old found new =
        ((found ≡ step.first) × (Runs enabled (old.0.front ++ event ∷ []) × (new ≡ (after_append old.0.front event old.0, old.1))))
        ⊎ ((found ≢ step.first) × ((log : List Event) × (length log ≡ found) × Learns old.0 log × (new ≡ (after_load log old.0, old.1))))

    -- a load of the count after a join, which leaves the front and tells what came before it
    abbrev pub OnCatchUp : Step (Option V) → Me (Option V) View → ℕ → Me (Option V) View → Type 0
    OnCatchUp step old found new = Learns old.0 old.0.front × Begins old.0.met old.0.front × (new ≡ (after_catch_up old.0, old.1))
