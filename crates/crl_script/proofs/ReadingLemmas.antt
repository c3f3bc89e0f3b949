-- Reading one line after another.
use Rattle.std.proofs.Common.{◌≡◌, ℕ, ◌+◌, List, ◌∷◌, Result, Ok, Err, ap}
use Rattle.crl_script.specs.declared.fault.ScriptWhy.{ScriptWhy}
use Rattle.crl_script.specs.Labels.{Names}
use Rattle.crl_script.specs.Progress.{Progress, line_of}
use Rattle.crl_script.specs.Sentence.{lines_from, at_line, ◌>=>◌}
use Rattle.crl_script.specs.Text.{Line}

-- a line is read
pub line_read : (names : Names) (p next : Progress) (n : ℕ) (line : Line) (lines : List Line)
    → line_of names p line ≡ Ok next → lines_from names p n (line ∷ lines) ≡ lines_from names next (n + 1) lines
line_read names p next n line lines e = ap (λ (r : Result Progress ScriptWhy). at_line n r >=> (λ q. lines_from names q (n + 1) lines)) e

-- a line has a fault
pub line_fault : (names : Names) (p : Progress) (n : ℕ) (line : Line) (lines : List Line) (why : ScriptWhy)
    → line_of names p line ≡ Err why → lines_from names p n (line ∷ lines) ≡ Err (record { line = n; why = why })
line_fault names p n line lines why e = ap (λ (r : Result Progress ScriptWhy). at_line n r >=> (λ q. lines_from names q (n + 1) lines)) e
