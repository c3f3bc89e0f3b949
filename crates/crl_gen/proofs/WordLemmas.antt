-- The words of a generator, in order.
use Rattle.std.proofs.Common.{◌≡◌, ℕ, zero, suc, ◌+◌, refl, ap, ◌∙◌, arith}
use Rattle.rand_pcg.specs.Lcg.{Lcg, advance, next_state, state_after}
use Rattle.rand_pcg.specs.Pcg.{multiplier_64}
use Rattle.crl_order.specs.Words.{generator_after}

after_last : (w m p n s : ℕ) → next_state w m p (state_after w m p n s) ≡ state_after w m p (suc n) s
unfolding state_after
after_last w m p zero s = refl
after_last w m p (suc n) s = after_last w m p n (next_state w m p s)

pub one_more : (n : ℕ) (g : Lcg) → generator_after (advance 64 multiplier_64 n g) ≡ advance 64 multiplier_64 (n + 1) g
one_more n g =
    let more : suc n ≡ n + 1 = omega arith in
    ap (λ s. record g { state = s }) (after_last 64 multiplier_64 g.increment n g.state) ∙ ap (λ k. advance 64 multiplier_64 k g) more

pub none_given : (g : Lcg) → g ≡ advance 64 multiplier_64 0 g
unfolding state_after
none_given g = refl
