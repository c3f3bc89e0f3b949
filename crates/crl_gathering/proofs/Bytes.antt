-- How many bytes a round brings.
use Rattle.std.proofs.Common.{◌≡◌, ℕ, ℤ, pos, ◌+ℤ◌, zero, suc, ◌≤◌, Bool, true, false, List, [], ◌∷◌, refl, ap, arith, length, max, if◌then◌else◌}
use Rattle.std.specs.Option.{option_map_or}
use Rattle.std.specs.declared.option.Option.{Option}
use Rattle.std.specs.declared.option.Option.TheVariants.{None, Some}
use Rattle.crl_model.specs.declared.collective.Part.{Part}
use Rattle.crl_model.specs.declared.collective.Part.TheVariants as part
use Rattle.crl_model.specs.declared.collective.Fold.TheVariants as fold
use Rattle.crl_model.specs.FoldOf.{are_barriers, sum_from, least_from, greatest_from, sent_from, fold_of}
use Rattle.crl_protocol.specs.Places.{put}
use Rattle.crl_gathering.specs.Lengths.{part_bytes, fold_bytes, longest_sent, FoldFits}
use Rattle.crl_gathering.specs.RoundState.{present}

abbrev sent_bytes : Option (List ℕ) → ℕ
sent_bytes None = 0
sent_bytes (Some bytes) = length bytes

abbrev most : List Part → ℕ
most [] = 0
most (p ∷ ps) = max (part_bytes p) (most ps)

sent_most : (sent : Option (List ℕ)) (ps : List Part) → sent_bytes (sent_from sent ps) ≤ max (sent_bytes sent) (most ps)
sent_most None [] = omega arith
sent_most (Some sent) [] = omega arith
sent_most None (part.Send bytes ∷ ps) = let h = sent_most (Some bytes) ps in omega arith
sent_most (Some sent) (part.Send bytes ∷ ps) = omega arith
sent_most None (part.Receive ∷ ps) = let h = sent_most None ps in omega arith
sent_most (Some sent) (part.Receive ∷ ps) = let h = sent_most (Some sent) ps in omega arith
sent_most None (part.Barrier ∷ ps) = omega arith
sent_most (Some sent) (part.Barrier ∷ ps) = omega arith
sent_most None (part.Sum v ∷ ps) = omega arith
sent_most (Some sent) (part.Sum v ∷ ps) = omega arith
sent_most None (part.Min v ∷ ps) = omega arith
sent_most (Some sent) (part.Min v ∷ ps) = omega arith
sent_most None (part.Max v ∷ ps) = omega arith
sent_most (Some sent) (part.Max v ∷ ps) = omega arith

sent_fold : (sent : Option (List ℕ)) → fold_bytes (option_map_or fold.Broadcast sent fold.Mixed) ≡ sent_bytes sent
sent_fold None = refl
sent_fold (Some bytes) = refl

no_bytes_if : (b : Bool) → fold_bytes (if b then fold.Barrier else fold.Mixed) ≡ 0
no_bytes_if true = refl
no_bytes_if false = refl

fold_most : (ps : List Part) → fold_bytes (fold_of ps) ≤ most ps
fold_most [] = omega arith
fold_most (part.Barrier ∷ ps) = let h = no_bytes_if (are_barriers ps) in omega arith
fold_most (part.Send bytes ∷ ps) = let h = sent_fold (sent_from (Some bytes) ps) in let k = sent_most (Some bytes) ps in omega arith
fold_most (part.Receive ∷ ps) = let h = sent_fold (sent_from None ps) in let k = sent_most None ps in omega arith
fold_most (part.Sum v ∷ ps) = none (sum_from (pos 0 +ℤ v) ps)
  where
    none : (o : Option ℤ) → fold_bytes (option_map_or fold.Sum o fold.Mixed) ≤ most (part.Sum v ∷ ps)
    none None = omega arith
    none (Some x) = omega arith
fold_most (part.Min v ∷ ps) = none (least_from v ps)
  where
    none : (o : Option ℤ) → fold_bytes (option_map_or fold.Min o fold.Mixed) ≤ most (part.Min v ∷ ps)
    none None = omega arith
    none (Some x) = omega arith
fold_most (part.Max v ∷ ps) = none (greatest_from v ps)
  where
    none : (o : Option ℤ) → fold_bytes (option_map_or fold.Max o fold.Mixed) ≤ most (part.Max v ∷ ps)
    none None = omega arith
    none (Some x) = omega arith

most_present : (xs : List (Option Part)) → most (present xs) ≡ longest_sent xs
most_present [] = refl
most_present (None ∷ xs) = let h = most_present xs in omega arith
most_present (Some p ∷ xs) = ap (max (part_bytes p)) (most_present xs)

most_put : (n : ℕ) (p : Part) (xs : List (Option Part)) → longest_sent (put n (Some p) xs) ≤ max (longest_sent xs) (part_bytes p)
most_put zero p [] = omega arith
most_put (suc n) p [] = let h = most_put n p [] in omega arith
most_put zero p (x ∷ xs) = omega arith
most_put (suc n) p (x ∷ xs) = let h = most_put n p xs in omega arith

-- the fold of the parts with one more
pub fold_fits : (n : ℕ) (p : Part) (xs : List (Option Part)) → FoldFits p xs (fold_of (present (put n (Some p) xs)))
fold_fits n p xs =
    let f = fold_most (present (put n (Some p) xs)) in let m = most_present (put n (Some p) xs) in let k = most_put n p xs in omega arith
