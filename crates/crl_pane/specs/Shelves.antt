-- The pane on a shelf, owned or shared, and the share that is laid by.
use Rattle.std.specs.Prelude.{◌≡◌, ⊤, ℕ, Bool, true, false, List, [], Option, Some, None}
use Rattle.std.specs.Arc.{arc_value}
use Rattle.crl_pane.specs.declared.shelf.Kept.{Kept}
use Rattle.crl_pane.specs.declared.shelf.Kept.TheVariants.{Own, Shared}

abbrev pub kept_bytes : Option Kept → List ℕ
kept_bytes (Some (Own pane)) = pane
kept_bytes (Some (Shared pane)) = arc_value pane
kept_bytes None = []

abbrev pub has_spare : {X : Type 0} → Option X → Bool
has_spare (Some spare) = true
has_spare None = false

-- the spare, whose bytes `of` names, is a share of the pane that is kept
abbrev pub IsSpareOf : {X : Type 0} → (X → List ℕ) → List ℕ → Option X → Type 0
IsSpareOf of bytes (Some spare) = of spare ≡ bytes
IsSpareOf of bytes None = ⊤
