-- A run with one event more at its end.
use Rattle.std.proofs.Common.{◌≡◌, ℕ, List, [], ◌∷◌, ◌++◌, refl, ap, sym, ◌∙◌, append_assoc}
use Rattle.crl_model.specs.declared.event.Event.{Event}
use Rattle.crl_protocol.specs.Talk.{hears, hears_of}
use Rattle.crl_protocol.specs.World.{World, step, world_after, account_from}

pub append_nil : {A : Type 0} (xs : List A) → xs ++ [] ≡ xs
append_nil [] = refl
append_nil (x ∷ xs) = ap (λ ys. x ∷ ys) (append_nil xs)

pub world_grows : (w : World) (run : List Event) (e : Event) → world_after w (run ++ e ∷ []) ≡ (step e (world_after w run)).world
world_grows w [] e = refl
world_grows w (x ∷ run) e = world_grows (step x w).world run e

pub account_grows : (w : World) (run : List Event) (e : Event) → account_from w (run ++ e ∷ []) ≡ account_from w run ++ (step e (world_after w run)).entries
account_grows w [] e = append_nil (step e w).entries
account_grows w (x ∷ run) e =
    ap (λ es. (step x w).entries ++ es) (account_grows (step x w).world run e) ∙ sym
    (append_assoc (step x w).entries (account_from (step x w).world run) (step e (world_after (step x w).world run)).entries)

pub hears_grow : (n : ℕ) (w : World) (run : List Event) (e : Event) → hears n w (run ++ e ∷ []) ≡ hears n w run ++ hears_of n e (step e (world_after w run)).answer
hears_grow n w [] e = append_nil (hears_of n e (step e w).answer)
hears_grow n w (x ∷ run) e =
    ap (λ hs. hears_of n x (step x w).answer ++ hs) (hears_grow n (step x w).world run e) ∙ sym (append_assoc (hears_of n x (step x w).answer) (hears n (step x w).world run) (hears_of n e (step e (world_after (step x w).world run)).answer))
