-- Paper for pieces.
use Rattle.std.specs.Prelude.{ℕ, ◌-◌, ◌≤◌, ◌≡◌, List, length, min, All}
use Rattle.crl_pieces.specs.Pieces.{count}
use Rattle.crl_pieces.specs.declared.TheConstants.{PIECE_LEN}

-- so many sheets, each with room for a piece of bytes of this size
abbrev pub IsStack : ℕ → ℕ → List ℕ → Type 0
IsStack size number sheets = (length sheets ≡ number) × All (λ sheet. min size PIECE_LEN ≤ sheet) sheets

-- one for each piece
abbrev pub AreSheets : ℕ → List ℕ → ℕ → Type 0
AreSheets size others last = IsStack size (count size - 1) others × (min size PIECE_LEN ≤ last)
