-- The end of a run that finishes, and that an unnested, aligned script comes to it under any order.
use Rattle.std.specs.Prelude.{◌≡◌, ℕ, ◌<◌, ◌≤◌, true, false, List, []}
use Rattle.crl_model.specs.declared.statement.Statement.{Statement}
use Rattle.crl_protocol.specs.Chosen.{Running, IsChosen}
use Rattle.crl_protocol.specs.Ends.{is_finished, is_stuck, report}
use Rattle.crl_stuck.specs.Ends.{statements_in, most_turns}
use Rattle.crl_finish.specs.Unnested.{AreUnnested, AreAligned}

-- Every node of the run is finished, and its report names no node as blocked.
pub record EndsFinished (end : Running) : Type 0 where
  pub nodes : (i : ℕ) → i < end.world.count → is_finished i end ≡ true
  pub not_stuck : is_stuck end ≡ false
  pub none_blocked : (report end).blocked ≡ []

-- Where the run that the script and the order choose has no choice left, it is finished.
abbrev pub Finishes : ℕ → ℕ → List (List Statement) → (ℕ → ℕ) → Type 0
Finishes count capacity blocks words =
    AreUnnested blocks → AreAligned count blocks → (end : Running) → IsChosen count capacity blocks words end → EndsFinished end

-- The run comes to such an end, after at most so many turns.
pub record ComesToEnd (count capacity : ℕ) (blocks : List (List Statement)) (words : ℕ → ℕ) : Type 0 where
  pub end : Running
  pub chosen : IsChosen count capacity blocks words end
  pub few : chosen.turns ≤ most_turns count (statements_in count blocks)
  pub done : EndsFinished end

abbrev pub ComesToFinish : ℕ → ℕ → List (List Statement) → (ℕ → ℕ) → Type 0
ComesToFinish count capacity blocks words = AreUnnested blocks → AreAligned count blocks → ComesToEnd count capacity blocks words
