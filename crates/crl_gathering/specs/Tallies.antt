-- What the parts of a round have given so far.
use Rattle.std.specs.Prelude.{ℕ, ◌*◌, ◌^◌, if◌then◌else◌, List, Some, None, ℤ, pos, neg_ℤ, ◌≤ℤ◌}
use Rattle.std.specs.Option.{option_map_or}
use Rattle.crl_model.specs.declared.collective.Part.{Part}
use Rattle.crl_model.specs.declared.collective.Fold.{Fold}
use Rattle.crl_model.specs.declared.collective.Fold.TheVariants as fold
use Rattle.crl_model.specs.FoldOf.{are_barriers, sum_from, least_from, greatest_from, sent_from, fold_of}
use Rattle.crl_gathering.specs.declared.tally.Tally.{Tally}
use Rattle.crl_gathering.specs.declared.tally.Tally.TheVariants.{Start, Barrier, Receive, Send, Sum, Min, Max, Mixed}

-- what they give with these parts behind them
abbrev pub tally_gives : Tally → List Part → Fold
tally_gives Start parts = fold_of parts
tally_gives Barrier parts = if are_barriers parts then fold.Barrier else fold.Mixed
tally_gives Receive parts = option_map_or fold.Broadcast (sent_from None parts) fold.Mixed
tally_gives (Send bytes) parts = option_map_or fold.Broadcast (sent_from (Some bytes) parts) fold.Mixed
tally_gives (Sum sum) parts = option_map_or fold.Sum (sum_from sum parts) fold.Mixed
tally_gives (Min least) parts = option_map_or fold.Min (least_from least parts) fold.Mixed
tally_gives (Max greatest) parts = option_map_or fold.Max (greatest_from greatest parts) fold.Mixed
tally_gives Mixed parts = fold.Mixed

-- it may be the sum of so many numbers of 64 bits
pub record IsSumOf (n : ℕ) (sum : ℤ) : Type 0 where
  pub low : neg_ℤ (pos (2 ^ 63 * n)) ≤ℤ sum
  pub high : sum ≤ℤ pos (2 ^ 63 * n)

-- so many parts may have given it
abbrev pub IsWithin : ℕ → Tally → Type 0
IsWithin n Start = Unit {0}
IsWithin n Barrier = Unit {0}
IsWithin n Receive = Unit {0}
IsWithin n (Send bytes) = Unit {0}
IsWithin n (Sum sum) = IsSumOf n sum
IsWithin n (Min least) = Unit {0}
IsWithin n (Max greatest) = Unit {0}
IsWithin n Mixed = Unit {0}
