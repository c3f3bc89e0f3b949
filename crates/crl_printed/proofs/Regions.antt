-- The regions that are there at the end have bytes.
use Rattle.std.proofs.Common.{◌≡◌, ◌≢◌, ℕ, zero, suc, ◌+◌, Bool, true, false, if◌then◌else◌, List, [], ◌∷◌, ◌++◌, refl}
use Rattle.std.specs.List.{AllByRecursion}
use Rattle.crl_model.specs.declared.name.Name.{Name}
use Rattle.crl_model.specs.declared.entry.Entry.{Entry}
use Rattle.crl_model.specs.declared.report.FinalRegion.{FinalRegion}
use Rattle.crl_model.specs.Stages.{is_there}
use Rattle.crl_machine.specs.SingleMachine.{State, start, IsHistory, after_all}
use Rattle.crl_machine.specs.FinalRegions.{region_named, regions_at, regions_from, final_regions}
use Rattle.crl_account.specs.Reports.{HasBytes}
use Rattle.crl_printed.proofs.Filled.{filled_at_end}

both_lists : (xs ys : List FinalRegion) → AllByRecursion HasBytes xs → AllByRecursion HasBytes ys → AllByRecursion HasBytes (xs ++ ys)
both_lists [] ys first rest = rest
both_lists (x ∷ xs) ys first rest = (first.0, both_lists xs ys first.1 rest)

abbrev pub HaveBytes : State → Type 0
HaveBytes s = (q : Name) → is_there (s.stage q) ≡ true → s.bytes q ≢ []

named_filled : (s : State) (q : Name) → HaveBytes s → AllByRecursion HasBytes (region_named s q)
named_filled s q have = go (is_there (s.stage q)) refl where
  go : (b : Bool) → is_there (s.stage q) ≡ b → AllByRecursion HasBytes (if b then record { name = q; bytes = s.bytes q } ∷ [] else [])
  go true is = (have q is, tt)
  go false is = tt

at_filled : (s : State) (home serial count : ℕ) → HaveBytes s → AllByRecursion HasBytes (regions_at s home serial count)
at_filled s home serial zero have = tt
at_filled s home serial (suc count) have =
    both_lists (region_named s (record { home = home; serial = serial })) (regions_at s home (serial + 1) count) (named_filled s (record { home = home; serial = serial }) have) (at_filled s home (serial + 1) count have)

from_filled : (s : State) (home count : ℕ) → HaveBytes s → AllByRecursion HasBytes (regions_from s home count)
from_filled s home zero have = tt
from_filled s home (suc count) have = both_lists (regions_at s home 1 (s.used home)) (regions_from s (home + 1) count) (at_filled s home 1 (s.used home) have) (from_filled s (home + 1) count have)

pub regions_filled : (n : ℕ) (es : List Entry) → IsHistory (start n) es → AllByRecursion HasBytes (final_regions (after_all (start n) es))
regions_filled n es legal = from_filled (after_all (start n) es) 0 (after_all (start n) es).nodes (λ q is. filled_at_end n es q legal is)
