use Rattle.std.proofs.Common.{◌≡◌, ◌+◌, ◌*◌, ◌++◌, ap, ◌∙◌, arith}
use Rattle.crl_order.specs.Words.{words_of_seed}
use Rattle.crl_gen.specs.WordsGiven.{WordsGiven}
use Rattle.crl_gen.specs.Making.{round_of}
use Rattle.crl_gen.proofs.Each.{loop_step_from}
use Rattle.crl_gen.proofs.rounds.push_rounds.Goals as goal

pub loop-round-preserved : goal.loop-round-preserved
loop-round-preserved c =
    let at = c.loop-round in let h = at.invariant in let pushed = c.in_ok-push_round.ensures in
    let next : (c.args.first + at.round) + 1 ≡ c.args.first + (at.round + 1) = omega arith in
    record {
      block = loop_step_from (round_of (words_of_seed c.args.words.now.seed) c.args.nodes c.args.regions) c.args.first at.round c.args.rounds at.block.items _ _ c.loop-round-test.true
          (pushed.ok ∙ ap (λ (w : WordsGiven). at.block.items ++ round_of (words_of_seed w.seed) c.args.nodes c.args.regions (c.args.first + at.round)) h.words) h.block;
      words = pushed.words ∙ ap (λ (w : WordsGiven). record w { given = 2 * ((c.args.first + at.round) + 1) }) h.words ∙ ap (λ k. record c.args.words.now { given = 2 * k }) next;
    }
