-- A guard that is held.
use Rattle.std.specs.Prelude.{ℕ, true, false, List}
use Rattle.crl_protocol.specs.Sections.{Guard}
use Rattle.crl_talk.specs.Guards.{Given}
use Rattle.crl_run.specs.declared.held.Held.{Held}
use Rattle.crl_run.specs.declared.held.Held.TheVariants.{Read, Write}

abbrev pub given : Held → Given
given (Read guard) = record { write = false; guard = guard }
given (Write guard) = record { write = true; guard = guard }

abbrev pub guard_in : Held → Guard
guard_in h = (given h).guard

-- the guard with other bytes
abbrev pub with_bytes_in : Given → List ℕ → Given
with_bytes_in g bytes = record { write = g.write; guard = record { node = g.guard.node; name = g.guard.name; number = g.guard.number; bytes = bytes } }
