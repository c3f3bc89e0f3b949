use Rattle.std.proofs.Common.{◌≡◌, ◌∙◌, sym, ap, length, arith}
use Rattle.std.proofs.lemmas.Grind.{common_steps}
use Rattle.crl_machine.specs.Seen.{state}
use Rattle.crl_machine.proofs.States.{region_put, found, share_written}
use Rattle.crl_machine.proofs.Tables.{agree_written, fit_put, fit_as}
use Rattle.crl_machine.proofs.machine.Machine.put_share.Goals as goal

pub invariant_of-self-clause-regions_fit : goal.invariant_of-self-clause-regions_fit
unfolding state
invariant_of-self-clause-regions_fit c =
    let put = rw c.in-Some.is at (c.get_mut.follows.holds c.put_share.new.self) in
    let fit = c.args.self.now.regions_fit c.args.name.now c.in-Some.region.now (sym c.in-Some.ensures.row) in
    let many : length c.put_share.new.self.shares.items ≡ length c.in-Some.region.now.shares.items = ap length c.put_share.ensures.shares ∙ grind (arith, common_steps) in
    fit_put _ _ _ _ c.args.name.now c.put_share.new.self put.rows
    (fit_as _ _ c.in-Some.region.now c.put_share.new.self (omega (arith, many, fit.shares)) (λ n e. fit.writer n (sym c.put_share.ensures.writer ∙ e)) c.put_share.ensures.size fit) c.args.self.now.regions_fit

pub invariant_of-self-clause-agree : goal.invariant_of-self-clause-agree
unfolding state
invariant_of-self-clause-agree c =
    let put = rw c.in-Some.is at (c.get_mut.follows.holds c.put_share.new.self) in
    agree_written _ _ _ c.args.name.now c.in-Some.region.now c.put_share.new.self put.rows (sym c.in-Some.ensures.row) c.put_share.ensures.stage c.args.self.now.agree

pub returns : goal.returns
unfolding state
returns c =
    let put = rw c.in-Some.is at (c.get_mut.follows.holds c.put_share.new.self) in
    let is = sym c.in-Some.ensures.row in
    region_put _ _ _ _ c.args.name.now c.put_share.new.self put.rows
    ∙ share_written _ c.args.node c.args.name.now c.in-Some.region.now c.put_share.new.self c.args.share (found _ _ _ c.args.name.now c.in-Some.region.now is)
    c.put_share.ensures.stage c.put_share.ensures.bytes c.put_share.ensures.writer c.put_share.ensures.shares (rw is at c.requires.shared)
