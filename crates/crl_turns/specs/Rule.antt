-- The rule of the turns: what holds between any two atomic steps, of the words, the slots and what each pass knows.
-- Word 0 is the number of events, word i + 1 is the turn of part i, and slot i is for the value of part i.
use Rattle.std.specs.Prelude.{◌≡◌, ◌≢◌, ℕ, suc, ◌+◌, ◌^◌, ◌<◌, ◌≤◌, ◌==◌, ◌⊎◌, Bool, true, false, List, [], ◌∷◌, length, slice_index, None, Some, Option}
use mathlib.Core.Option as maybe
use lib.ListN.{get_elem?}
use Rattle.atomic_table.specs.Table.{State}
use Rattle.crl_model.specs.declared.event.Event.{Event}
use Rattle.crl_turns.specs.declared.turned.Shape.{Shape}
use Rattle.crl_turns.specs.declared.view.Place.{Place}
use Rattle.crl_turns.specs.declared.view.Place.TheVariants.{Free, Full, Drawn, Empty}
use Rattle.crl_turns.specs.declared.view.Holding.{Holding}
use Rattle.crl_turns.specs.declared.view.View.{View}
use Rattle.crl_turns.specs.Fronts.{Begins, Runs, Spares}

-- the value has the common shape, and stands for the part after the list
abbrev pub StandsFor : {V : Type 0} → (V → Shape) → (Shape → ℕ → List Event → V → Type 0) → Shape → ℕ → List Event → V → Type 0
StandsFor shape stands common part front value = (shape value ≡ common) × stands common part front value

abbrev pub place_if : Bool → Place → Place → Place
place_if true here there = here
place_if false here there = there

-- Where the value of a part is for a pass, which says whether the pass holds the turn. The newest entry counts.
abbrev pub value_place : ℕ → List Holding → Place
value_place part [] = Free
value_place part (newest ∷ rest) = place_if (part == newest.part) newest.place (value_place part rest)

abbrev pub HoldsTurn : ℕ → View → Type 0
HoldsTurn part view = value_place part view.holds ≢ Free

abbrev pub IsAmong : {A : Type 0} → A → List A → Type 0
IsAmong item [] = ⊥
IsAmong item (first ∷ rest) = (item ≡ first) ⊎ IsAmong item rest

-- no view but that of seat id holds the turn
abbrev pub HoldsAlone : List View → ℕ → ℕ → Type 0
HoldsAlone views part id = (other : ℕ) (view : View) → get_elem? views other ≡ maybe.some view → other ≢ id → value_place part view.holds ≡ Free

module _ {V : Type 0} (stands : ℕ → List Event → V → Type 0) where
  -- What is at home in the slot of a part, by where the value is for who holds the turn.
  -- A slot that is out with a seat is not at home (none). One that came home empty has None.
  abbrev pub Stocks : List Event → ℕ → maybe.Option (maybe.Option (Option V)) → Place → Type 0
  Stocks log part home Free = (value : V) × (home ≡ maybe.some (maybe.some (Some value))) × stands part log value
  Stocks log part home Full = (value : V) × (home ≡ maybe.some (maybe.some (Some value))) × stands part log value
  Stocks log part home Drawn = home ≡ maybe.some maybe.none
  Stocks log part home Empty = home ≡ maybe.some (maybe.some None)

  -- the word is 0, no pass holds the turn, and the slot has a value that stands
  pub record TurnIsIn (log : List Event) (views : List View) (word : ℕ) (home : maybe.Option (maybe.Option (Option V))) (part : ℕ) : Type 0 where
    pub word_is : word ≡ 0
    pub nobody : (id : ℕ) (view : View) → get_elem? views id ≡ maybe.some view → value_place part view.holds ≡ Free
    pub stocks : Stocks log part home Free

  -- the word is 1, exactly one pass holds the turn, and the slot has what that pass says
  pub record TurnIsOut (log : List Event) (views : List View) (word : ℕ) (home : maybe.Option (maybe.Option (Option V))) (part : ℕ) : Type 0 where
    pub word_is : word ≡ 1
    pub id : ℕ
    pub view : View
    pub at : get_elem? views id ≡ maybe.some view
    pub holds : HoldsTurn part view
    pub alone : HoldsAlone views part id
    pub stocks : Stocks log part home (value_place part view.holds)

module _ (touches : List Event → Event → ℕ → Type 0) where
  -- What a pass knows is so, and nobody else has touched a part whose turn it holds.
  pub record Knows (log : List Event) (view : View) : Type 0 where
    pub front : Begins view.front log
    pub known : Begins view.known log
    pub met : Begins view.met log
    pub spares : (part : ℕ) → HoldsTurn part view → Spares (λ before event. touches before event part) (length view.known) log
    -- every event that touches a part whose value the pass has is in its front
    pub fresh : (part : ℕ) → value_place part view.holds ≡ Empty → Spares (λ before event. touches before event part) (length view.front) log
    pub own : (position : ℕ) → IsAmong position view.own → position < length view.front

module _ {V : Type 0} (enabled : List Event → Event → Type 0) (touches : List Event → Event → ℕ → Type 0) (stands : ℕ → List Event → V → Type 0) where
  -- The rule. The history is the log, which lies nowhere at run time: one pass has a front of its length.
  pub record TurnRule (state : State (Option V) View) : Type 0 where
    pub wide : length state.words ≡ suc (length state.homes)
    pub log : List Event
    pub longest : (id : ℕ) × (view : View) × (get_elem? state.views id ≡ maybe.some view) × (length view.front ≡ length log)
    pub count : length log ≡ slice_index state.words 0
    pub limit : length log ≤ 2 ^ 62
    pub runs : Runs enabled log
    pub knows : (id : ℕ) (view : View) → get_elem? state.views id ≡ maybe.some view → Knows touches log view
    -- no two passes have appended the event of one position
    pub own : (first second position : ℕ) (one other : View) → get_elem? state.views first ≡ maybe.some one → get_elem? state.views second ≡ maybe.some other
        → IsAmong position one.own → IsAmong position other.own → first ≡ second
    pub turns : (part : ℕ) → part < length state.homes
        → TurnIsIn stands log state.views (slice_index state.words (part + 1)) (get_elem? state.homes part) part ⊎ TurnIsOut stands log state.views (slice_index state.words (part + 1)) (get_elem? state.homes part) part
