use Rattle.crl_machine.specs.Seen.{state}
use Rattle.crl_machine.proofs.Blank.{deletes_blank}
use Rattle.crl_machine.proofs.States.{started}
use Rattle.crl_machine.proofs.Tables.{agree_start, fit_start}
use Rattle.crl_machine.proofs.machine.Machine.new.Goals as goal

pub invariant_of-result-clause-regions_fit : goal.invariant_of-result-clause-regions_fit
unfolding state
invariant_of-result-clause-regions_fit c = fit_start _ _ _ c.new-2.ensures.rows

pub invariant_of-result-clause-agree : goal.invariant_of-result-clause-agree
unfolding state
invariant_of-result-clause-agree c = agree_start _ _ c.new-2.ensures.rows (λ n. deletes_blank _ n c.loop.invariant.blank)

pub returns : goal.returns
unfolding state
returns c = started _ _ _ c.new-2.ensures.rows c.loop.invariant.blank
