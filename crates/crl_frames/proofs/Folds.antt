-- What the parts of a round give fits, where each part does and there are at most 64.
use Rattle.std.proofs.Common.{ℕ, ℤ, pos, neg_ℤ, ◌+ℤ◌, ◌≤ℤ◌, ◌+◌, ◌*◌, ◌^◌, ◌≤◌, None, Some, Option, List, [], ◌∷◌, length, arith}
use Rattle.std.proofs.lemmas.Int.{ints}
use Rattle.std.specs.Prelude.{FitsSigned, int_lt}
use Rattle.std.specs.Int.{w64, w128, int_min, int_max}
use Rattle.std.specs.List.{AllByRecursion}
use Rattle.std.specs.Option.{option_map_or}
use Rattle.std.proofs.lemmas.Bool.{cond_both}
use Rattle.crl_model.specs.declared.collective.Part.{Part}
use Rattle.crl_model.specs.declared.collective.Part.TheVariants as part
use Rattle.crl_model.specs.declared.collective.Fold.{Fold}
use Rattle.crl_model.specs.declared.collective.Fold.TheVariants as fold
use Rattle.crl_model.specs.FoldOf.{are_barriers, sum_from, least_from, greatest_from, sent_from, fold_of}
use Rattle.crl_machine.specs.SingleMachine.{IsSendable}
use Rattle.crl_frames.specs.Frames.{IsTypedPart}

-- the bytes that a part sends are as many as may be sent
abbrev pub PartFits : Part → Type 0
PartFits p = IsSendable p × IsTypedPart p

abbrev pub SentFits : List ℕ → Type 0
SentFits bytes = PartFits (part.Send bytes)

abbrev pub FoldFits : Fold → Type 0
FoldFits fold.Barrier = Unit {0}
FoldFits (fold.Broadcast bytes) = SentFits bytes
FoldFits (fold.Sum value) = FitsSigned w128 value
FoldFits (fold.Min value) = FitsSigned w64 value
FoldFits (fold.Max value) = FitsSigned w64 value
FoldFits fold.Mixed = Unit {0}

-- what is there, if something is
abbrev pub Given : {A : Type 0} → (A → Type 0) → Option A → Type 0
Given P None = Unit {0}
Given P (Some x) = P x

given_fold : {A : Type 0} (Q : Fold → Type 0) (P : A → Type 0) (make : A → Fold) → Q fold.Mixed → ((x : A) → P x → Q (make x)) → (o : Option A) → Given P o → Q (option_map_or make o fold.Mixed)
given_fold Q P make mixed f None h = mixed
given_fold Q P make mixed f (Some x) h = f x h

-- The sum of so many numbers of 64 bits.
record IsSum (n : ℕ) (sum : ℤ) : Type 0 where
  low : neg_ℤ (pos (2 ^ 63 * n)) ≤ℤ sum
  high : sum ≤ℤ pos (2 ^ 63 * n)

no_sum : IsSum 0 (pos 0)
no_sum = record { low = omega (arith, ints); high = omega (arith, ints) }

one_more : (n : ℕ) (sum v : ℤ) → IsSum n sum → FitsSigned w64 v → IsSum (n + 1) (sum +ℤ v)
one_more n sum v s f = record { low = omega (arith, ints, s.low); high = omega (arith, ints, s.high) }

sum_fits : (n : ℕ) (sum : ℤ) → n ≤ 64 → IsSum n sum → FitsSigned w128 sum
sum_fits n sum l s = omega (arith, ints, s.low, s.high)

summed : (n : ℕ) (sum : ℤ) (ps : List Part) → n + length ps ≤ 64 → IsSum n sum → AllByRecursion PartFits ps → Given (FitsSigned w128) (sum_from sum ps)
summed n sum [] l s h = sum_fits n sum (omega arith) s
summed n sum (part.Sum v ∷ ps) l s h = summed (n + 1) (sum +ℤ v) ps (omega arith) (one_more n sum v s h.0.1) h.1
summed n sum (part.Barrier ∷ ps) l s h = tt
summed n sum (part.Send bytes ∷ ps) l s h = tt
summed n sum (part.Receive ∷ ps) l s h = tt
summed n sum (part.Min v ∷ ps) l s h = tt
summed n sum (part.Max v ∷ ps) l s h = tt

least : (ps : List Part) (x : ℤ) → FitsSigned w64 x → AllByRecursion PartFits ps → Given (FitsSigned w64) (least_from x ps)
least [] x f h = f
least (part.Min v ∷ ps) x f h = least ps (int_min x v) (cond_both (int_lt v x) _ _ (FitsSigned w64) (λ w. h.0.1) (λ w. f)) h.1
least (part.Barrier ∷ ps) x f h = tt
least (part.Send bytes ∷ ps) x f h = tt
least (part.Receive ∷ ps) x f h = tt
least (part.Sum v ∷ ps) x f h = tt
least (part.Max v ∷ ps) x f h = tt

greatest : (ps : List Part) (x : ℤ) → FitsSigned w64 x → AllByRecursion PartFits ps → Given (FitsSigned w64) (greatest_from x ps)
greatest [] x f h = f
greatest (part.Max v ∷ ps) x f h = greatest ps (int_max x v) (cond_both (int_lt v x) _ _ (FitsSigned w64) (λ w. f) (λ w. h.0.1)) h.1
greatest (part.Barrier ∷ ps) x f h = tt
greatest (part.Send bytes ∷ ps) x f h = tt
greatest (part.Receive ∷ ps) x f h = tt
greatest (part.Sum v ∷ ps) x f h = tt
greatest (part.Min v ∷ ps) x f h = tt

sent : (P : Part → Type 0) (o : Option (List ℕ)) (ps : List Part) → Given (λ bytes. P (part.Send bytes)) o → AllByRecursion P ps → Given (λ bytes. P (part.Send bytes)) (sent_from o ps)
sent P o [] f h = f
sent P None (part.Send bytes ∷ ps) f h = sent P (Some bytes) ps h.0 h.1
sent P (Some x) (part.Send bytes ∷ ps) f h = tt
sent P None (part.Receive ∷ ps) f h = sent P None ps f h.1
sent P (Some x) (part.Receive ∷ ps) f h = sent P (Some x) ps f h.1
sent P None (part.Barrier ∷ ps) f h = tt
sent P (Some x) (part.Barrier ∷ ps) f h = tt
sent P None (part.Sum v ∷ ps) f h = tt
sent P (Some x) (part.Sum v ∷ ps) f h = tt
sent P None (part.Min v ∷ ps) f h = tt
sent P (Some x) (part.Min v ∷ ps) f h = tt
sent P None (part.Max v ∷ ps) f h = tt
sent P (Some x) (part.Max v ∷ ps) f h = tt

pub fold_fits : (ps : List Part) → length ps ≤ 64 → AllByRecursion PartFits ps → FoldFits (fold_of ps)
fold_fits [] l h = tt
fold_fits (part.Barrier ∷ ps) l h = cond_both (are_barriers ps) _ _ FoldFits (λ w. tt) (λ w. tt)
fold_fits (part.Send bytes ∷ ps) l h = given_fold FoldFits SentFits fold.Broadcast tt (λ x f. f) _ (sent PartFits (Some bytes) ps h.0 h.1)
fold_fits (part.Receive ∷ ps) l h = given_fold FoldFits SentFits fold.Broadcast tt (λ x f. f) _ (sent PartFits None ps tt h.1)
fold_fits (part.Sum v ∷ ps) l h = given_fold FoldFits (FitsSigned w128) fold.Sum tt (λ x f. f) _ (summed 1 _ ps (omega arith) (one_more 0 (pos 0) v no_sum h.0.1) h.1)
fold_fits (part.Min v ∷ ps) l h = given_fold FoldFits (FitsSigned w64) fold.Min tt (λ x f. f) _ (least ps v h.0.1 h.1)
fold_fits (part.Max v ∷ ps) l h = given_fold FoldFits (FitsSigned w64) fold.Max tt (λ x f. f) _ (greatest ps v h.0.1 h.1)

-- What may be sent, whatever the values are.
abbrev pub FoldSendable : Fold → Type 0
FoldSendable (fold.Broadcast bytes) = IsSendable (part.Send bytes)
FoldSendable _ = Unit {0}

abbrev SentMay : List ℕ → Type 0
SentMay bytes = IsSendable (part.Send bytes)

any_given : (o : Option ℤ) → Given (λ (x : ℤ). Unit {0}) o
any_given None = tt
any_given (Some x) = tt

pub fold_sendable : (ps : List Part) → AllByRecursion IsSendable ps → FoldSendable (fold_of ps)
fold_sendable [] h = tt
fold_sendable (part.Barrier ∷ ps) h = cond_both (are_barriers ps) _ _ FoldSendable (λ w. tt) (λ w. tt)
fold_sendable (part.Send bytes ∷ ps) h = given_fold FoldSendable SentMay fold.Broadcast tt (λ x f. f) _ (sent IsSendable (Some bytes) ps h.0 h.1)
fold_sendable (part.Receive ∷ ps) h = given_fold FoldSendable SentMay fold.Broadcast tt (λ x f. f) _ (sent IsSendable None ps tt h.1)
fold_sendable (part.Sum v ∷ ps) h = given_fold FoldSendable (λ (x : ℤ). Unit {0}) fold.Sum tt (λ x f. tt) _ (any_given (sum_from (pos 0 +ℤ v) ps))
fold_sendable (part.Min v ∷ ps) h = given_fold FoldSendable (λ (x : ℤ). Unit {0}) fold.Min tt (λ x f. tt) _ (any_given (least_from v ps))
fold_sendable (part.Max v ∷ ps) h = given_fold FoldSendable (λ (x : ℤ). Unit {0}) fold.Max tt (λ x f. tt) _ (any_given (greatest_from v ps))
