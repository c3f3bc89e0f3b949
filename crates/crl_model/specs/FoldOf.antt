-- What the parts of a round give, computed.
use Rattle.std.specs.Prelude.{ℕ, Bool, true, false, if◌then◌else◌, List, [], ◌∷◌, ℤ, pos, ◌+ℤ◌}
use Rattle.std.specs.Int.{int_min, int_max}
use Rattle.std.specs.Option.{option_map_or}
use Rattle.std.specs.declared.option.Option.{Option}
use Rattle.std.specs.declared.option.Option.TheVariants.{None, Some}
use Rattle.crl_model.specs.declared.collective.Part.{Part}
use Rattle.crl_model.specs.declared.collective.Part.TheVariants as part
use Rattle.crl_model.specs.declared.collective.Fold.{Fold}
use Rattle.crl_model.specs.declared.collective.Fold.TheVariants.{Barrier, Broadcast, Sum, Min, Max, Mixed}

-- all parts are barriers
abbrev pub are_barriers : List Part → Bool
are_barriers [] = true
are_barriers (part.Barrier ∷ ps) = are_barriers ps
are_barriers (_ ∷ ps) = false

-- the number with all parts' added; none where a part brings no number to add
abbrev pub sum_from : ℤ → List Part → Option ℤ
sum_from sum [] = Some sum
sum_from sum (part.Sum v ∷ ps) = sum_from (sum +ℤ v) ps
sum_from sum (_ ∷ ps) = None

-- the least, and the greatest, of the number and all parts'
abbrev pub least_from : ℤ → List Part → Option ℤ
least_from least [] = Some least
least_from least (part.Min v ∷ ps) = least_from (int_min least v) ps
least_from least (_ ∷ ps) = None

abbrev pub greatest_from : ℤ → List Part → Option ℤ
greatest_from greatest [] = Some greatest
greatest_from greatest (part.Max v ∷ ps) = greatest_from (int_max greatest v) ps
greatest_from greatest (_ ∷ ps) = None

-- the bytes that one part sends, or were sent before, where all others receive
abbrev pub sent_from : Option (List ℕ) → List Part → Option (List ℕ)
sent_from sent [] = sent
sent_from None (part.Send bytes ∷ ps) = sent_from (Some bytes) ps
sent_from (Some sent) (part.Send bytes ∷ ps) = None
sent_from sent (part.Receive ∷ ps) = sent_from sent ps
sent_from sent (_ ∷ ps) = None

-- what the parts give; the first of them says what they have to be
abbrev pub fold_of : List Part → Fold
fold_of [] = Mixed
fold_of (part.Barrier ∷ ps) = if are_barriers ps then Barrier else Mixed
fold_of (part.Send bytes ∷ ps) = option_map_or Broadcast (sent_from (Some bytes) ps) Mixed
fold_of (part.Receive ∷ ps) = option_map_or Broadcast (sent_from None ps) Mixed
fold_of (part.Sum v ∷ ps) = option_map_or Sum (sum_from (pos 0 +ℤ v) ps) Mixed
fold_of (part.Min v ∷ ps) = option_map_or Min (least_from v ps) Mixed
fold_of (part.Max v ∷ ps) = option_map_or Max (greatest_from v ps) Mixed
