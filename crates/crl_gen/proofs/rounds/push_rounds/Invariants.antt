use Rattle.std.proofs.Common.{◌≡◌, ◌+◌, ◌*◌, ◌-◌, ◌++◌}
use Rattle.crl_order.specs.Words.{words_of_seed}
use Rattle.crl_gen.specs.Making.{each_from, round_of}
use Rattle.crl_gen.proofs.rounds.push_rounds.Given as goal

abbrev pub invariant-loop-round : goal.invariant-loop-round
invariant-loop-round l = record {
  block : l.block.items ++ each_from (round_of (words_of_seed l.fn.words.seed) l.nodes l.regions) (l.first + l.round) ((l.first + l.rounds) - (l.first + l.round))
      ≡ l.fn.block.items ++ each_from (round_of (words_of_seed l.fn.words.seed) l.nodes l.regions) l.first l.rounds;
  words : l.words ≡ record l.fn.words { given = 2 * (l.first + l.round) };
}
