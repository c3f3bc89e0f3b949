use Rattle.std.proofs.Common.{◌≡◌, ◌+◌, ◌-◌, ◌++◌, ◌∙◌, refl, sym, ap, arith}
use Rattle.crl_machine.specs.Seen.{state}
use Rattle.crl_machine.specs.FinalRegions.{regions_at}
use Rattle.crl_machine.proofs.Listing.{region_added, no_more_regions}
use Rattle.crl_machine.proofs.machine.Machine.add_home.Goals as goal

pub loop-count-init : goal.loop-count-init
loop-count-init c = let none : c.used-count-end.result - 0 ≡ c.used-count-end.result = omega arith in rw none refl

pub loop-count-preserved : goal.loop-count-preserved
loop-count-preserved c = region_added _ _ _ (state c.args.self.now) c.args.home (c.loop-count.count + 1) _ _ c.new.result (omega (arith, c.loop-count-test.true)) c.new.ensures c.in_ok-add_name.ensures c.loop-count.invariant

pub returns : goal.returns
returns c =
    sym (no_more_regions c.loop-count.regions.items (state c.args.self.now) c.args.home (c.loop-count.count + 1) (c.used-count-end.result - c.loop-count.count) (omega (arith, c.loop-count-test.false)))
    ∙ c.loop-count.invariant ∙ ap (λ n. c.args.regions.now.items ++ regions_at (state c.args.self.now) c.args.home 1 n) c.used-count-end.ensures
