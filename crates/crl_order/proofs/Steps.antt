-- A generator after one word.
use Rattle.std.proofs.Common.{◌≡◌, ℕ, suc, refl}
use Rattle.rand_pcg.specs.Lcg.{Lcg, state_after}
use Rattle.crl_order.specs.Words.{word_given, generator_after, words_from}

pub first_word : (g : Lcg) → words_from g 1 ≡ word_given g
unfolding state_after
first_word g = refl

pub later_words : (g : Lcg) (p : ℕ) → words_from (generator_after g) (suc p) ≡ words_from g (suc (suc p))
unfolding state_after
later_words g p = refl
