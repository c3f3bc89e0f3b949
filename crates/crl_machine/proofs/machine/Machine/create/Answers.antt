use Rattle.std.proofs.Common.{◌≡◌, ◌∙◌, ◌+◌, arith, ap}
use Rattle.std.proofs.lemmas.Grind.{common_steps}
use Rattle.crl_model.specs.declared.entry.What.TheVariants.{Create}
use Rattle.crl_machine.specs.Seen.{state}
use Rattle.crl_machine.specs.SingleMachine.{State, change}
use Rattle.crl_machine.proofs.machine.Machine.create.Goals as goal

home : (c : goal.After-add_region-arg-1) → c.args.name.now.home ≡ c.args.node
unfolding state
home c = grind (arith, common_steps)

next : (c : goal.After-add_region-arg-1) → c.args.name.now.serial ≡ (state c.args.self.now).used c.args.node + 1
unfolding state
next c = grind (arith, common_steps)

pub add_region-requires-clause-serial : goal.add_region-requires-clause-serial
unfolding state
add_region-requires-clause-serial c = let same = ap (λ (s : State). s.used c.args.node) c.ready_region.ensures.state in let is = next c in omega (arith, same, is)

pub returns-clause-judged : goal.returns-clause-judged
unfolding state
returns-clause-judged c = record {
  legal = (c.requires.free, home c.before, next c.before, omega (arith, c.used-used.ensures, c.used-used.type_inv, c.if-used.false), omega arith, omega arith);
  made = c.add_region.ensures ∙ ap (λ (s : State). change s c.args.node (Create c.args.name.now c.args.size)) c.ready_region.ensures.state;
}
