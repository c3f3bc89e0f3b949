use Rattle.std.proofs.Common.{◌≡◌, ◌-◌, ◌++◌, ◌∙◌, sym, ap, arith}
use Rattle.std.proofs.Common.{List}
use Rattle.crl_model.specs.declared.report.FinalRegion.{FinalRegion}
use Rattle.crl_machine.specs.Seen.{state}
use Rattle.crl_machine.specs.FinalRegions.{regions_from}
use Rattle.crl_machine.proofs.Listing.{home_added, no_more_homes}
use Rattle.crl_machine.proofs.machine.Machine.final_regions.Goals as goal

pub loop-home-init : goal.loop-home-init
loop-home-init c = let none : c.nodes-home-end.result - 0 ≡ c.nodes-home-end.result = omega arith in rw none (ap (λ (xs : List FinalRegion). xs ++ regions_from (state c.args.self.now) 0 c.nodes-home-end.result) c.new-regions.ensures.items)

pub loop-home-preserved : goal.loop-home-preserved
loop-home-preserved c = home_added _ _ _ (state c.args.self.now) c.loop-home.home _ _ (omega (arith, c.loop-home-test.true)) c.in_ok-add_home.ensures c.loop-home.invariant

pub returns : goal.returns
returns c =
    sym (no_more_homes c.loop-home.regions.items (state c.args.self.now) c.loop-home.home (c.nodes-home-end.result - c.loop-home.home) (omega (arith, c.loop-home-test.false)))
    ∙ c.loop-home.invariant ∙ ap (λ n. regions_from (state c.args.self.now) 0 n) c.nodes-home-end.ensures
