use Rattle.std.proofs.Common.{◌≡◌, ℕ, ◌<◌, ◌≤◌, ◌∙◌, arith, sym, subst, length, Some}
use Rattle.std.specs.Prelude.{List}
use Rattle.crl_table.specs.Tables.{table_of}
use Rattle.crl_machine.specs.declared.share.Share.{Share}
use Rattle.crl_machine.specs.Seen.{state}
use Rattle.crl_machine.proofs.Sections.{no_writer_there}
use Rattle.crl_machine.proofs.States.{region_put, found, write_opened}
use Rattle.crl_machine.proofs.Tables.{agree_written, fit_put, fit_as}
use Rattle.crl_machine.proofs.machine.Machine.open_write.Goals as goal

node_of : (n m k : ℕ) → n < k → Some n ≡ Some m → m < k
node_of n m k inside e = let is : n ≡ m = cc in omega (arith, is)

pub put_writer-requires : goal.put_writer-requires
unfolding state
put_writer-requires c = λ some. let inside = rw (sym c.in-Some.ensures.row) at c.requires.shared in omega (arith, inside)

pub invariant_of-self-clause-regions_fit : goal.invariant_of-self-clause-regions_fit
unfolding state
invariant_of-self-clause-regions_fit c =
    let put = rw c.in-Some.is at (c.get_mut.follows.holds c.put_writer.new.self) in
    let fit = c.args.self.now.regions_fit c.args.name.now c.in-Some.region.now (sym c.in-Some.ensures.row) in
    fit_put _ _ _ _ c.args.name.now c.put_writer.new.self put.rows
    (fit_as _ _ c.in-Some.region.now c.put_writer.new.self (subst (λ (xs : List Share). length xs ≤ c.args.self.now.nodes) (sym c.put_writer.ensures.shares) fit.shares)
    (λ n e. node_of c.args.node n _ c.requires.node (sym c.put_writer.ensures.writer ∙ e)) c.put_writer.ensures.size fit) c.args.self.now.regions_fit

pub invariant_of-self-clause-agree : goal.invariant_of-self-clause-agree
unfolding state
invariant_of-self-clause-agree c =
    let put = rw c.in-Some.is at (c.get_mut.follows.holds c.put_writer.new.self) in
    agree_written _ _ _ c.args.name.now c.in-Some.region.now c.put_writer.new.self put.rows (sym c.in-Some.ensures.row) c.put_writer.ensures.stage c.args.self.now.agree

pub returns : goal.returns
unfolding state
returns c =
    let put = rw c.in-Some.is at (c.get_mut.follows.holds c.put_writer.new.self) in
    let is = sym c.in-Some.ensures.row in
    let fit = c.args.self.now.regions_fit c.args.name.now c.in-Some.region.now is in
    region_put _ _ _ _ c.args.name.now c.put_writer.new.self put.rows
    ∙ write_opened _ c.args.node c.args.name.now c.in-Some.region.now c.put_writer.new.self (found _ _ _ c.args.name.now c.in-Some.region.now is)
    c.put_writer.ensures.stage c.put_writer.ensures.bytes c.put_writer.ensures.shares
    (no_writer_there _ (table_of c.args.self.now.regions) c.args.self.now.rows.items c.args.name.now c.in-Some.region.now fit.writer is c.requires.unwritten) c.put_writer.ensures.writer
