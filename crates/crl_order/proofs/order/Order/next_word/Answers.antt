use Rattle.std.proofs.Common.{sym, ap, ◌∙◌, suc}
use Rattle.crl_order.specs.Words.{words_to_come, words_from}
use Rattle.crl_order.proofs.Steps.{first_word, later_words}
use Rattle.crl_order.proofs.order.Order.next_word.Goals as goal

pub returns-in-Seed-clause-word : goal.returns-in-Seed-clause-word
returns-in-Seed-clause-word c =
    c.next_word-in-Seed.ensures.word ∙ sym (first_word c.in-Seed.seeded) ∙ ap (λ o. words_to_come o 1) (sym c.in-Seed.is)

pub returns-in-Seed-clause-rest : goal.returns-in-Seed-clause-rest
returns-in-Seed-clause-rest c = λ p.
    ap (λ g. words_from g (suc p)) c.next_word-in-Seed.ensures.rest ∙ later_words c.in-Seed.seeded p ∙ ap (λ o. words_to_come o (suc (suc p))) (sym c.in-Seed.is)
