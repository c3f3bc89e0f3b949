use Rattle.std.proofs.Common.{◌≡◌, ℕ, ◌<◌, ◌∙◌, arith, refl, sym, ap, length, None, Some, true}
use Rattle.std.specs.Prelude.{IsSome}
use Rattle.std.specs.declared.option.Option.{Option}
use Rattle.crl_machine.specs.Tables.{is_writer}
use Rattle.crl_machine.specs.Seen.{state}
use Rattle.crl_machine.proofs.States.{region_put, found, write_closed}
use Rattle.crl_machine.proofs.Tables.{agree_written, fit_put, fit_as}
use Rattle.crl_machine.proofs.machine.Machine.close_write.Goals as goal

nobody : (m k : ℕ) → ◌≡◌ {A = Option ℕ} None (Some m) → m < k
nobody m k e = cc

some_writer : (o : Option ℕ) (n : ℕ) → is_writer o n ≡ true → IsSome o
some_writer None n e = cc
some_writer (Some m) n e = refl

pub overwrite-requires-clause-len : goal.overwrite-requires-clause-len
unfolding state
overwrite-requires-clause-len c = rw (sym c.in-Some.ensures.row) at c.requires.len

pub overwrite-requires-clause-shared : goal.overwrite-requires-clause-shared
unfolding state
overwrite-requires-clause-shared c = c.in-Some.region.now.writing (some_writer _ c.args.node (rw (sym c.in-Some.ensures.row) at c.requires.open))

pub invariant_of-self-clause-regions_fit : goal.invariant_of-self-clause-regions_fit
unfolding state
invariant_of-self-clause-regions_fit c =
    let put = rw c.in-Some.is at (c.get_mut.follows.holds c.put_writer.new.self) in
    let fit = c.args.self.now.regions_fit c.args.name.now c.in-Some.region.now (sym c.in-Some.ensures.row) in
    let many : length c.put_writer.new.self.shares.items ≡ length c.in-Some.region.now.shares.items = ap length (c.put_writer.ensures.shares ∙ c.overwrite.ensures.shares) in
    fit_put _ _ _ _ c.args.name.now c.put_writer.new.self put.rows
    (fit_as _ _ c.in-Some.region.now c.put_writer.new.self (omega (arith, many, fit.shares)) (λ n e. nobody n _ (sym c.put_writer.ensures.writer ∙ e)) (c.put_writer.ensures.size ∙ c.overwrite.ensures.size) fit) c.args.self.now.regions_fit

pub invariant_of-self-clause-agree : goal.invariant_of-self-clause-agree
unfolding state
invariant_of-self-clause-agree c =
    let put = rw c.in-Some.is at (c.get_mut.follows.holds c.put_writer.new.self) in
    agree_written _ _ _ c.args.name.now c.in-Some.region.now c.put_writer.new.self put.rows (sym c.in-Some.ensures.row) (c.put_writer.ensures.stage ∙ c.overwrite.ensures.stage) c.args.self.now.agree

pub returns : goal.returns
unfolding state
returns c =
    let put = rw c.in-Some.is at (c.get_mut.follows.holds c.put_writer.new.self) in
    let is = sym c.in-Some.ensures.row in
    region_put _ _ _ _ c.args.name.now c.put_writer.new.self put.rows
    ∙ write_closed _ c.args.node c.args.name.now c.in-Some.region.now c.put_writer.new.self c.args.after.now (found _ _ _ c.args.name.now c.in-Some.region.now is)
    (c.put_writer.ensures.stage ∙ c.overwrite.ensures.stage) (c.put_writer.ensures.bytes ∙ c.overwrite.ensures.bytes) (c.put_writer.ensures.shares ∙ c.overwrite.ensures.shares)
    (rw is at c.requires.open) c.put_writer.ensures.writer
