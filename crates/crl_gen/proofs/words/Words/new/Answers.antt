use Rattle.std.proofs.Common.{◌∙◌}
use Rattle.crl_order.specs.Words.{generator_of_seed}
use Rattle.crl_gen.proofs.WordLemmas.{none_given}
use Rattle.crl_gen.proofs.words.Words.new.Goals as goal

pub invariant_of-result : goal.invariant_of-result
invariant_of-result c = c.new.ensures ∙ none_given (generator_of_seed c.args.seed)
