use Rattle.std.proofs.Common.{◌≡◌, ◌++◌, drop}
use Rattle.crl_script.specs.Canonical.{blocks_text, canonical_of}
use Rattle.crl_script.proofs.printing.canonical.Given as goal

abbrev pub invariant-loop-node : goal.invariant-loop-node
invariant-loop-node l = l.out.items ++ blocks_text l.node (drop l.node l.script.blocks) ≡ canonical_of l.script
