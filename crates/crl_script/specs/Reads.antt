-- What reading a script answers.
use Rattle.std.specs.Prelude.{◌≡◌, Result, Ok, Err}
use Rattle.crl_script.specs.declared.fault.ScriptFault.{ScriptFault}
use Rattle.crl_script.specs.declared.fault.ScriptFault.TheVariants.{Bad, OutOfMemory}
use Rattle.crl_script.specs.Program.{Program, Fault}

-- the answer is what the text says, unless memory ran out
abbrev pub Reads : Result Program ScriptFault → Result Program Fault → Type 0
Reads (Ok script) says = says ≡ Ok script
Reads (Err (Bad line why)) says = says ≡ Err (record { line = line; why = why })
Reads (Err OutOfMemory) says = Unit {0}

-- the answer, seen by view, is what is read, unless memory ran out
abbrev pub ReadsAs : {X Y : Type 0} → (X → Y) → Result X ScriptFault → Result Y Fault → Type 0
ReadsAs view (Ok x) read = read ≡ Ok (view x)
ReadsAs view (Err (Bad line why)) read = read ≡ Err (record { line = line; why = why })
ReadsAs view (Err OutOfMemory) read = Unit {0}
