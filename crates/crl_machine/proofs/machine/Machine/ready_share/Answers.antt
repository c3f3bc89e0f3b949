use Rattle.std.proofs.Common.{◌∙◌, sym, arith}
use Rattle.crl_machine.specs.Seen.{state}
use Rattle.crl_machine.proofs.States.{region_put, found, share_readied}
use Rattle.crl_machine.proofs.Tables.{agree_written, fit_put, fit_as, has_share}
use Rattle.crl_machine.proofs.machine.Machine.ready_share.Goals as goal

pub invariant_of-self-clause-regions_fit : goal.invariant_of-self-clause-regions_fit
unfolding state
invariant_of-self-clause-regions_fit c =
    let put = rw c.in-Some.is at (c.get_mut.follows.holds c.ready.new.self) in
    let fit = c.args.self.now.regions_fit c.args.name.now c.in-Some.region.now (sym c.in-Some.ensures.row) in
    fit_put _ _ _ _ c.args.name.now c.ready.new.self put.rows
    (fit_as _ _ c.in-Some.region.now c.ready.new.self (omega (arith, c.ready.ensures.few, fit.shares, c.requires.node)) (λ n e. fit.writer n (sym c.ready.ensures.writer ∙ e)) c.ready.ensures.size fit) c.args.self.now.regions_fit

pub invariant_of-self-clause-agree : goal.invariant_of-self-clause-agree
unfolding state
invariant_of-self-clause-agree c =
    let put = rw c.in-Some.is at (c.get_mut.follows.holds c.ready.new.self) in
    agree_written _ _ _ c.args.name.now c.in-Some.region.now c.ready.new.self put.rows (sym c.in-Some.ensures.row) c.ready.ensures.stage c.args.self.now.agree

pub returns-clause-state : goal.returns-clause-state
unfolding state
returns-clause-state c =
    let put = rw c.in-Some.is at (c.get_mut.follows.holds c.ready.new.self) in
    region_put _ _ _ _ c.args.name.now c.ready.new.self put.rows
    ∙ share_readied _ c.args.name.now c.in-Some.region.now c.ready.new.self (found _ _ _ c.args.name.now c.in-Some.region.now (sym c.in-Some.ensures.row))
    c.ready.ensures.stage c.ready.ensures.bytes c.ready.ensures.writer c.ready.ensures.shares

pub returns-clause-ok : goal.returns-clause-ok
unfolding state
returns-clause-ok c =
    let put = rw c.in-Some.is at (c.get_mut.follows.holds c.ready.new.self) in
    has_share c.ready.result _ c.args.node c.ready.new.self put.here c.ready.ensures.ok
