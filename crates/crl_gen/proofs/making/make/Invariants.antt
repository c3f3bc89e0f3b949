use Rattle.std.proofs.Common.{◌≡◌, ◌*◌, ◌-◌, ◌++◌, [], ◌∷◌, map}
use Rattle.crl_order.specs.Words.{words_of_seed}
use Rattle.crl_gen.specs.Making.{each_from, block_made}
use Rattle.crl_gen.proofs.making.make.Given as goal

abbrev pub invariant-loop-node : goal.invariant-loop-node
invariant-loop-node l = record {
  blocks : map (λ b. b.items) l.blocks.items ++ each_from (λ node. block_made (words_of_seed l.seed) l.nodes l.regions l.rounds node ∷ []) l.node (l.nodes - l.node)
      ≡ each_from (λ node. block_made (words_of_seed l.seed) l.nodes l.regions l.rounds node ∷ []) 0 l.nodes;
  words : l.words ≡ record { seed = l.seed; given = 2 * (l.node * l.rounds) };
}
