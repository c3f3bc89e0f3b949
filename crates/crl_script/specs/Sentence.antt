-- What a text says.
use Rattle.std.specs.Prelude.{ℕ, ◌+◌, ◌==◌, if◌then◌else◌, List, [], ◌∷◌, length, Result, Ok, Err}
use Rattle.crl_script.specs.declared.fault.ScriptWhy.{ScriptWhy}
use Rattle.crl_script.specs.declared.fault.ScriptWhy.TheVariants.{NoNodes}
use Rattle.crl_script.specs.Labels.{Names, any_name}
use Rattle.crl_script.specs.Program.{Program, Fault}
use Rattle.crl_script.specs.Progress.{Progress, start, line_of}
use Rattle.crl_script.specs.Text.{Line, lines_of}

-- a fault at this line
abbrev pub at_line : ℕ → {A : Type 0} → Result A ScriptWhy → Result A Fault
at_line n (Ok x) = Ok x
at_line n (Err why) = Err (record { line = n; why = why })

-- reading goes on with what was read, if it was
infixl 10 ◌>=>◌
abbrev pub ◌>=>◌ : {A B : Type 0} → Result A Fault → (A → Result B Fault) → Result B Fault
(Ok x) >=> f = f x
(Err fault) >=> f = Err fault

-- The lines of which the first is line n, up to the first fault. The names of labels at a line are given by those of the
-- labels created before it.
abbrev pub lines_by : (Names → Names) → Progress → ℕ → List Line → Result Progress Fault
lines_by known p n [] = Ok p
lines_by known p n (line ∷ lines) = at_line n (line_of (known p.names) p line) >=> (λ next. lines_by known next (n + 1) lines)

-- the same with labels that have these names at each line
abbrev pub lines_from : Names → Progress → ℕ → List Line → Result Progress Fault
lines_from names = lines_by (λ so_far. names)

-- a text
unfoldable pub read_by : (Names → Names) → List ℕ → Result Progress Fault
read_by known text = lines_by known start 1 (lines_of text)

-- a text, read with labels that have these names
abbrev pub read_with : Names → List ℕ → Result Progress Fault
read_with names = read_by (λ so_far. names)

-- what the script says, where it has a line that isn't skipped
abbrev pub program_of : Progress → Result Program Fault
program_of p =
    if length p.blocks == 0 then Err (record { line = 1; why = NoNodes })
    else Ok (record { nodes = length p.blocks; cache = p.cache; blocks = p.blocks })

-- A text is read once with a name for every label, for all faults but unknown labels, and for the names
-- of the labels that the script creates; and then with these names.
unfoldable pub script_of : List ℕ → Result Program Fault
script_of text = read_with any_name text >=> (λ first. read_with first.names text >=> program_of)
