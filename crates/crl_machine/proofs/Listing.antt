-- The regions that are there, one by one.
use Rattle.std.proofs.Common.{◌≡◌, ℕ, zero, suc, ◌+◌, List, ◌++◌, refl, sym, ap, ◌∙◌, arith, append_assoc, append-nil}
use Rattle.crl_model.specs.declared.name.Name.{Name}
use Rattle.crl_machine.specs.SingleMachine.{State}
use Rattle.crl_model.specs.declared.report.FinalRegion.{FinalRegion}
use Rattle.crl_machine.specs.FinalRegions.{region_named, regions_at, regions_from}

names_more : (s : State) (home serial n m : ℕ) → n ≡ m + 1 → regions_at s home serial n ≡ region_named s (record { home = home; serial = serial }) ++ regions_at s home (serial + 1) m
names_more s home serial zero m e = absurd (omega (arith, e))
names_more s home serial (suc k) m e = let same : k ≡ m = omega (arith, e) in rw same refl

-- one region more is added
pub region_added : (listed added whole : List FinalRegion) (s : State) (home serial n m : ℕ) (name : Name) → n ≡ m + 1 → name ≡ record { home = home; serial = serial } → added ≡ listed ++ region_named s name
    → listed ++ regions_at s home serial n ≡ whole → added ++ regions_at s home (serial + 1) m ≡ whole
region_added listed added whole s home serial n m name e is more so_far =
    ap (λ t. t ++ regions_at s home (serial + 1) m) (more ∙ ap (λ q. listed ++ region_named s q) is)
    ∙ append_assoc listed (region_named s (record { home = home; serial = serial })) (regions_at s home (serial + 1) m)
    ∙ ap (λ t. listed ++ t) (sym (names_more s home serial n m e)) ∙ so_far

pub no_more_regions : (listed : List FinalRegion) (s : State) (home serial n : ℕ) → n ≡ 0 → listed ++ regions_at s home serial n ≡ listed
no_more_regions listed s home serial zero e = append-nil listed
no_more_regions listed s home serial (suc n) e = absurd (omega (arith, e))

homes_more : (s : State) (home n m : ℕ) → n ≡ m + 1 → regions_from s home n ≡ regions_at s home 1 (s.used home) ++ regions_from s (home + 1) m
homes_more s home zero m e = absurd (omega (arith, e))
homes_more s home (suc k) m e = let same : k ≡ m = omega (arith, e) in rw same refl

-- the regions of one home more are added
pub home_added : (listed added whole : List FinalRegion) (s : State) (home n m : ℕ) → n ≡ m + 1 → added ≡ listed ++ regions_at s home 1 (s.used home)
    → listed ++ regions_from s home n ≡ whole → added ++ regions_from s (home + 1) m ≡ whole
home_added listed added whole s home n m e more so_far =
    ap (λ t. t ++ regions_from s (home + 1) m) more
    ∙ append_assoc listed (regions_at s home 1 (s.used home)) (regions_from s (home + 1) m)
    ∙ ap (λ t. listed ++ t) (sym (homes_more s home n m e)) ∙ so_far

pub no_more_homes : (listed : List FinalRegion) (s : State) (home n : ℕ) → n ≡ 0 → listed ++ regions_from s home n ≡ listed
no_more_homes listed s home zero e = append-nil listed
no_more_homes listed s home (suc n) e = absurd (omega (arith, e))
