use Rattle.std.proofs.Common.{◌∙◌, ap}
use Rattle.crl_order.specs.Words.{generator_of_seed, generator_after}
use Rattle.crl_gen.proofs.WordLemmas.{one_more}
use Rattle.crl_gen.proofs.words.Words.next.Goals as goal

pub invariant_of-self : goal.invariant_of-self
invariant_of-self c = c.next_word.ensures.rest ∙ ap generator_after c.self.invariant ∙ one_more c.self.inside.given (generator_of_seed c.self.inside.seed)
