-- How many bytes a round brings.
use Rattle.std.specs.Prelude.{ℕ, ◌≤◌, List, [], ◌∷◌, length, max}
use Rattle.std.specs.declared.option.Option.{Option}
use Rattle.std.specs.declared.option.Option.TheVariants.{None, Some}
use Rattle.crl_model.specs.declared.collective.Part.{Part}
use Rattle.crl_model.specs.declared.collective.Part.TheVariants as part
use Rattle.crl_model.specs.declared.collective.Fold.{Fold}
use Rattle.crl_model.specs.declared.collective.Fold.TheVariants as fold

-- the bytes that a part sends, and that a fold broadcasts
abbrev pub part_bytes : Part → ℕ
part_bytes (part.Send bytes) = length bytes
part_bytes _ = 0

abbrev pub fold_bytes : Fold → ℕ
fold_bytes (fold.Broadcast bytes) = length bytes
fold_bytes _ = 0

abbrev pub slot_bytes : Option Part → ℕ
slot_bytes None = 0
slot_bytes (Some p) = part_bytes p

-- the most bytes that one part sends
abbrev pub longest_sent : List (Option Part) → ℕ
longest_sent [] = 0
longest_sent (slot ∷ slots) = max (slot_bytes slot) (longest_sent slots)

-- a fold's bytes have room where there is room for the bytes of each part that came before and of this one
abbrev pub FoldFits : Part → List (Option Part) → Fold → Type 0
FoldFits p parts f = fold_bytes f ≤ max (longest_sent parts) (part_bytes p)
