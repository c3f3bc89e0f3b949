-- The words of an order.
use Rattle.std.specs.Prelude.{ℕ, zero, suc}
use Rattle.rand_core.specs.Pcg32Seed.{pcg32_seed}
use Rattle.rand_pcg.specs.Lcg.{Lcg, advance}
use Rattle.rand_pcg.specs.Pcg.{multiplier_64, pcg32, pcg32_of_seed}
use Rattle.crl_protocol.specs.Chosen.{always_first, pick_at}
use Rattle.crl_order.specs.declared.order.Order.{Order}
use Rattle.crl_order.specs.declared.order.Order.TheVariants.{First, Picks, Seed}

-- the generator of a seed
abbrev pub generator_of_seed : ℕ → Lcg
generator_of_seed seed = pcg32_of_seed (pcg32_seed 16 seed)

-- the next word of a generator, and the generator after it
abbrev pub word_given : Lcg → ℕ
word_given g = (pcg32 g).0

abbrev pub generator_after : Lcg → Lcg
generator_after g = (pcg32 g).1

-- the p-th word that a generator gives, from 1
abbrev pub words_from : Lcg → ℕ → ℕ
words_from g zero = 0
words_from g (suc p) = word_given (advance 64 multiplier_64 p g)

abbrev pub words_of_seed : ℕ → ℕ → ℕ
words_of_seed seed = words_from (generator_of_seed seed)

-- the p-th word to come of an order, from 1
abbrev pub words_to_come : Order → ℕ → ℕ
words_to_come First = always_first
words_to_come (Picks values) = pick_at values
words_to_come (Seed g) = words_from g
