-- What closing answers.
use Rattle.std.specs.Prelude.{◌≡◌, ℕ, ◌^◌, ◌≤◌, List, ◌∷◌, length, slice_get, Some}
use Rattle.crl_model.specs.declared.event.Event.{Event}
use Rattle.crl_turns.specs.declared.turned.Shape.{Shape}
use Rattle.crl_turns.specs.declared.faults.CloseWhy.{CloseWhy}
use Rattle.crl_turns.specs.declared.faults.CloseWhy.TheVariants.{OutOfMemory, Busy}
use Rattle.crl_turns.specs.declared.turns.Pass.{Pass}
use Rattle.crl_turns.specs.Fronts.{Begins, Runs}
use Rattle.crl_turns.specs.Rule.{IsAmong, StandsFor}
use Rattle.crl_turns.specs.Closing.{GotNone}
use Rattle.crl_turns.specs.Passes.{view_of}

module _ {V : Type 0} (shape : V → Shape) (enabled : Shape → List Event → Event → Type 0) (stands : Shape → ℕ → List Event → V → Type 0) (common : Shape) where
  -- The history is a run of so many events, which begins with the front of each pass. The values are in the order of
  -- their parts, and each stands for its part after the history.
  pub record Closes (parts : ℕ) (passes : List Pass) (values : List V) (count : ℕ) : Type 0 where
    pub history : List Event
    pub counts : length history ≡ count
    pub limit : length history ≤ 2 ^ 62
    pub runs : Runs (enabled common) history
    pub fronts : (pass : Pass) → IsAmong pass passes → Begins (view_of pass).front history
    pub many : length values ≡ parts
    pub each : (part : ℕ) (value : V) → slice_get values part ≡ Some value → StandsFor shape stands common part history value

-- The first pass has tried the turns, and the named one was out. The other passes are as they were.
pub record TriesInVain (enabled : List Event → Event → Type 0) (parts : ℕ) (old : List Pass) (part : ℕ) (new : List Pass) : Type 0 where
  pub before : Pass
  pub after : Pass
  pub others : List Pass
  pub were : old ≡ before ∷ others
  pub are : new ≡ after ∷ others
  pub same_turns : after.badge.table_id ≡ before.badge.table_id
  pub got_none : GotNone enabled parts (view_of before) part (view_of after)

-- The passes come back.
abbrev pub HandsBack : (List Event → Event → Type 0) → ℕ → List Pass → CloseWhy → List Pass → Type 0
HandsBack enabled parts old OutOfMemory new = new ≡ old
HandsBack enabled parts old (Busy part) new = TriesInVain enabled parts old part new
