use Rattle.std.proofs.Common.{map}
use Rattle.crl_node_tests.specs.Plain.{AreBlocks}
use Rattle.crl_node_tests.proofs.playing.blocks_of.Given as goal

abbrev pub invariant-loop-node : goal.invariant-loop-node
invariant-loop-node l = AreBlocks l.node (map (λ b. b.items) l.blocks.items)
