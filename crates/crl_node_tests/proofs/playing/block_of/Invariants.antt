use Rattle.std.specs.List.{All}
use Rattle.crl_node_tests.specs.Plain.{IsPlain}
use Rattle.crl_node_tests.proofs.playing.block_of.Given as goal

abbrev pub invariant-loop-statement : goal.invariant-loop-statement
invariant-loop-statement l = All IsPlain l.block.items
