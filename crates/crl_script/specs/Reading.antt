-- Reading may fail.
use Rattle.std.specs.Prelude.{◌≡◌, Result, Ok, Err}
use Rattle.crl_script.specs.declared.fault.ScriptWhy.{ScriptWhy}
use Rattle.crl_script.specs.declared.fault.LineFault.{LineFault}
use Rattle.crl_script.specs.declared.fault.LineFault.TheVariants.{Bad, Memory}

-- the second step, if the first gave a value
infixl 10 ◌>>=◌
abbrev pub ◌>>=◌ : {A B : Type 0} → Result A ScriptWhy → (A → Result B ScriptWhy) → Result B ScriptWhy
(Ok x) >>= f = f x
(Err why) >>= f = Err why

-- a fault is the one that is read; want of memory may come at any time
abbrev pub Fails : {Y : Type 0} → LineFault → Result Y ScriptWhy → Type 0
Fails (Bad why) read = read ≡ Err why
Fails Memory read = Unit {0}

-- what a function returned, seen by view, is what is read, unless memory ran out
abbrev pub Gives : {X Y : Type 0} → (X → Y) → Result X LineFault → Result Y ScriptWhy → Type 0
Gives view (Ok x) read = read ≡ Ok (view x)
Gives view (Err fault) read = Fails fault read

-- what a step changes is then this, unless memory ran out
abbrev pub Changes : {X Y : Type 0} → Result X LineFault → Y → Y → Type 0
Changes (Ok x) new is = new ≡ is
Changes (Err (Bad why)) new is = ⊥
Changes (Err Memory) new is = Unit {0}
