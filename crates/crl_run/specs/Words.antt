-- Words of which others are the first.
use Rattle.std.specs.Prelude.{ℕ, ◌-◌, nat_le, if◌then◌else◌}

-- so many of these, and then the others, each counted from 1
abbrev pub words_then : ℕ → (ℕ → ℕ) → (ℕ → ℕ) → ℕ → ℕ
words_then k words rest p = if nat_le p k then words p else rest (p - k)
