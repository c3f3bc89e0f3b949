-- How all turns are got, and what is then taken apart.
use Rattle.std.specs.Prelude.{◌≡◌, ℕ, zero, suc, ◌^◌, ◌<◌, ◌≤◌, true, false, List, [], ◌++◌, length, slice_get, Some, Option}
use mathlib.Core.Option as maybe
use lib.ListN.{get_elem?}
use Rattle.crl_model.specs.declared.event.Event.{Event}
use Rattle.crl_turns.specs.declared.turned.Shape.{Shape}
use Rattle.crl_turns.specs.declared.view.Place.TheVariants.{Free, Full}
use Rattle.crl_turns.specs.declared.view.Try.{Try}
use Rattle.crl_turns.specs.declared.view.View.{View}
use Rattle.crl_turns.specs.Fronts.{Begins, Runs}
use Rattle.crl_turns.specs.Rule.{value_place, StandsFor}
use Rattle.crl_turns.specs.Plays.{attempt}

-- the turns of the first parts were tried in order, and got
abbrev pub tries_below : ℕ → List Try
tries_below zero = []
tries_below (suc part) = tries_below part ++ attempt part true

abbrev pub HoldsNone : View → Type 0
HoldsNone view = (part : ℕ) → value_place part view.holds ≡ Free

-- The pass has tried the turn of the part, which was out.
pub record MissesTurn (part : ℕ) (old new : View) : Type 0 where
  pub front : new.front ≡ old.front
  pub own : new.own ≡ old.own
  pub splits : new.splits ≡ old.splits
  pub tried : new.tried ≡ old.tried ++ attempt part false
  pub holds : new.holds ≡ old.holds

-- The pass has tried and got the first turns, and holds no others.
pub record GotBelow (count : ℕ) (old new : View) : Type 0 where
  pub front : new.front ≡ old.front
  pub own : new.own ≡ old.own
  pub splits : new.splits ≡ old.splits
  pub tried : new.tried ≡ old.tried ++ tries_below count
  pub below : (part : ℕ) → part < count → value_place part new.holds ≡ Full
  pub above : (part : ℕ) → count ≤ part → value_place part new.holds ≡ Free

-- The pass holds the first turns and no others. All else that it knows is as before.
pub record HoldsBelow (count : ℕ) (old new : View) : Type 0 where
  pub front : new.front ≡ old.front
  pub own : new.own ≡ old.own
  pub splits : new.splits ≡ old.splits
  pub tried : new.tried ≡ old.tried
  pub below : (part : ℕ) → part < count → value_place part new.holds ≡ Full
  pub above : (part : ℕ) → count ≤ part → value_place part new.holds ≡ Free

-- The pass has tried each turn once and got it, and has loaded the count.
pub record GotAll (parts : ℕ) (old new : View) : Type 0 where
  pub own : new.own ≡ old.own
  pub splits : new.splits ≡ old.splits
  pub tried : new.tried ≡ old.tried ++ tries_below parts
  pub begins : Begins old.front new.front
  pub level : new.known ≡ new.front
  pub limit : length new.front ≤ 2 ^ 62
  pub below : (part : ℕ) → part < parts → value_place part new.holds ≡ Full

-- The pass has tried the turns in order up to one that was out, has given the others back, and has loaded the count.
pub record GotNone (enabled : List Event → Event → Type 0) (parts : ℕ) (old : View) (part : ℕ) (new : View) : Type 0 where
  pub inside : part < parts
  pub own : new.own ≡ old.own
  pub splits : new.splits ≡ old.splits
  pub tried : new.tried ≡ old.tried ++ (tries_below part ++ attempt part false)
  pub begins : Begins old.front new.front
  pub runs : Runs enabled new.front
  pub level : new.known ≡ new.front
  pub limit : length new.front ≤ 2 ^ 62
  pub idle : HoldsNone new

-- each slot has a value
abbrev pub AllThere : {V : Type 0} → List (Option V) → Type 0
AllThere {V} slots = (part : ℕ) → part < length slots → (value : V) × (get_elem? slots part ≡ maybe.some (Some value))

-- the values are those of the first slots
pub record IsDrained {V : Type 0} (count : ℕ) (slots : List (Option V)) (values : List V) : Type 0 where
  pub many : length values ≡ count
  pub each : (part : ℕ) (value : V) → slice_get values part ≡ Some value → get_elem? slots part ≡ maybe.some (Some value)

module _ {V : Type 0} (shape : V → Shape) (enabled : Shape → List Event → Event → Type 0) (stands : Shape → ℕ → List Event → V → Type 0) (common : Shape) where
  -- The history is a run of so many events that begins with the front. Each value stands for its part after it.
  pub record EndsWith (parts : ℕ) (front : List Event) (values : List V) (count : ℕ) : Type 0 where
    pub history : List Event
    pub counts : length history ≡ count
    pub limit : length history ≤ 2 ^ 62
    pub runs : Runs (enabled common) history
    pub begins : Begins front history
    pub many : length values ≡ parts
    pub each : (part : ℕ) (value : V) → slice_get values part ≡ Some value → StandsFor shape stands common part history value
