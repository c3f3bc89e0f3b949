-- Words as the code has them.
use Rattle.std.specs.Prelude.{◌≡◌, List, [], ◌∷◌, ℕ}
use Rattle.crl_script.specs.declared.line.Words.{Words}
use Rattle.crl_script.specs.declared.line.Words.TheVariants.{Empty, One, Two, Three, Many}

-- these are the words
abbrev pub Shows : Words → List (List ℕ) → Type 0
Shows Empty words = words ≡ []
Shows (One a) words = words ≡ a.now ∷ []
Shows (Two a b) words = words ≡ a.now ∷ b.now ∷ []
Shows (Three a b c) words = words ≡ a.now ∷ b.now ∷ c.now ∷ []
Shows Many words = (a b c d : List ℕ) × (more : List (List ℕ)) × (words ≡ a ∷ b ∷ c ∷ d ∷ more)
