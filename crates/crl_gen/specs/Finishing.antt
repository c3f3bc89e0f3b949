-- Scripts that are made always finish.
use Rattle.std.specs.Prelude.{ℕ}
use Rattle.crl_protocol.specs.Chosen.{Running, IsChosen}
use Rattle.crl_deeds.specs.Laws.{AreStatements}
use Rattle.crl_finish.specs.Unnested.{AreUnnested, AreAligned}
use Rattle.crl_finish.specs.Finish.{EndsFinished}
use Rattle.crl_gen.specs.Making.{script_made}

-- The script that the words make is unnested and aligned, and finishes under every order, whatever the caches hold.
pub record MadeFinishes (words : ℕ → ℕ) (nodes regions rounds : ℕ) : Type 0 where
  pub statements : AreStatements (script_made words nodes regions rounds).blocks
  pub unnested : AreUnnested (script_made words nodes regions rounds).blocks
  pub aligned : AreAligned nodes (script_made words nodes regions rounds).blocks
  pub done : (capacity : ℕ) (order : ℕ → ℕ) (end : Running) → IsChosen nodes capacity (script_made words nodes regions rounds).blocks order end → EndsFinished end
