use Rattle.std.proofs.Common.{◌≡◌, length}
use Rattle.std.specs.List.{All}
use Rattle.crl_machine.proofs.Blank.{IsBlank}
use Rattle.crl_machine.proofs.machine.Machine.new.Given as goal

abbrev pub invariant-loop : goal.invariant-loop
invariant-loop l = record { count : length l.rows.items ≡ l.counter; blank : All IsBlank l.rows.items }
