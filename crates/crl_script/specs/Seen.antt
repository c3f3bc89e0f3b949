-- What the code has, as what is read.
use Rattle.std.specs.Prelude.{◌≡◌, map, Result, Ok, Err}
use Rattle.crl_script.specs.declared.fault.LineFault.{LineFault}
use Rattle.crl_script.specs.declared.fault.LineFault.TheVariants.{Bad, Memory}
use Rattle.crl_script.specs.declared.fault.ScriptWhy.{ScriptWhy}
use Rattle.crl_script.specs.declared.line.Piece.{Piece}
use Rattle.crl_script.specs.declared.progress.Reading.{Reading}
use Rattle.crl_script.specs.Labels.{names_in}
use Rattle.crl_script.specs.Progress.{Progress}
use Rattle.crl_script.specs.Text.{Line}

-- a line
abbrev pub line_seen : Piece → Line
line_seen piece = record { size = piece.size; bytes = piece.bytes.now }

-- what is read so far
abbrev pub seen : Reading → Progress
seen r = record { place = r.place; cache = r.cache; begun = r.begun.items; names = names_in r.labels; made = r.made; blocks = map (λ b. b.items) r.blocks.items }

-- a step leads to this progress, or has this fault, unless memory ran out
abbrev pub Leads : {X : Type 0} → Result X LineFault → Progress → Result Progress ScriptWhy → Type 0
Leads (Ok x) new read = read ≡ Ok new
Leads (Err (Bad why)) new read = read ≡ Err why
Leads (Err Memory) new read = Unit {0}
