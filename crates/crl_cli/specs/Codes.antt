-- The exit status of the program.
use Rattle.std.specs.Prelude.{ℕ}
use Rattle.crl_cli.specs.declared.status.Status.{Status}
use Rattle.crl_cli.specs.declared.status.Status.TheVariants.{Ok, Usage, BadScript, Stuck, ReadFault, WriteFault, OutOfMemory, Illegal, BadAccount}

abbrev pub code_of : Status → ℕ
code_of Ok = 0
code_of Usage = 1
code_of BadScript = 2
code_of Stuck = 3
code_of ReadFault = 4
code_of WriteFault = 5
code_of OutOfMemory = 6
code_of Illegal = 7
code_of BadAccount = 8
