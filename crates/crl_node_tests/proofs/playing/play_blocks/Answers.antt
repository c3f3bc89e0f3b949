use Rattle.std.proofs.Common.{map}
use Rattle.crl_node_tests.proofs.Blocks.{few_statements}
use Rattle.crl_node_tests.proofs.playing.play_blocks.Goals as goal

pub run-requires-clause-few : goal.run-requires-clause-few
run-requires-clause-few c = few_statements c.args.nodes (map (λ b. b.items) c.args.blocks.now) c.requires.blocks c.requires.nodes.1
