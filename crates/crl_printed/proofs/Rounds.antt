-- The parts of a round have bytes where they send some, and so has what the round gives.
use Rattle.std.proofs.Common.{◌≡◌, ℕ, zero, suc, ◌+◌, ◌-◌, List, [], ◌∷◌, ◌++◌, get_or, subst, Some}
use Rattle.std.specs.Prelude.{slice_get}
use Rattle.crl_model.specs.declared.collective.Part.{Part}
use Rattle.crl_model.specs.declared.collective.Part.TheVariants as part
use Rattle.crl_model.specs.declared.collective.Fold.{Fold}
use Rattle.crl_model.specs.declared.collective.Fold.TheVariants as fold
use Rattle.crl_model.specs.Folds.{Agrees}
use Rattle.crl_machine.specs.SingleMachine.{State, parts_from, parts_of}
use Rattle.crl_account.specs.Text.{IsPrintablePart, IsPrintableFold}

-- each part of the list is printable, and so is that of a place behind its end
abbrev pub ArePrintable : List Part → Type 0
ArePrintable parts = (i : ℕ) → IsPrintablePart (get_or parts i part.Barrier)

pub one_more : (parts : List Part) (p : Part) → ArePrintable parts → IsPrintablePart p → ArePrintable (parts ++ p ∷ [])
one_more [] p all one zero = one
one_more [] p all one (suc i) = tt
one_more (q ∷ parts) p all one zero = all 0
one_more (q ∷ parts) p all one (suc i) = one_more parts p (λ j. all (suc j)) one i

found : (s : State) (round n count i : ℕ) (p : Part) → ((m : ℕ) → ArePrintable (s.came m)) → slice_get (parts_from s round n count) i ≡ Some p → IsPrintablePart p
found s round n zero i p all at = absurd cc
found s round n (suc count) zero p all at = let same : get_or (s.came n) (round - 1) part.Barrier ≡ p = cc in subst IsPrintablePart same (all n (round - 1))
found s round n (suc count) (suc i) p all at = found s round (n + 1) count i p all at

pub fold_printable : (s : State) (round : ℕ) (f : Fold) → ((m : ℕ) → ArePrintable (s.came m)) → Agrees (parts_of s round) f → IsPrintableFold f
fold_printable s round fold.Barrier all agreed = tt
fold_printable s round (fold.Broadcast bytes) all agreed = found s round 0 s.nodes agreed.0 (part.Send bytes) all agreed.1
fold_printable s round (fold.Sum value) all agreed = tt
fold_printable s round (fold.Min value) all agreed = tt
fold_printable s round (fold.Max value) all agreed = tt
fold_printable s round fold.Mixed all agreed = agreed
