use Rattle.std.proofs.Common.{◌≡◌, rules}
use Rattle.crl_model.specs.declared.collective.Fold.TheVariants.{Mixed}
use Rattle.crl_machine.specs.Seen.{state}
use Rattle.crl_machine.specs.SingleMachine.{parts_of}
use Rattle.crl_machine.proofs.Rounds.{agree_by, some_parts}
use Rattle.crl_machine.proofs.machine.Machine.agrees.Goals as goal

pub returns : goal.returns
unfolding state
returns c =
    let apart : c.args.fold.now ≡ Mixed → ⊥ = search rules in
    agree_by (parts_of (state c.args.self.now) c.args.round) c.args.fold.now c.gives.result (some_parts (state c.args.self.now) c.args.round c.args.node c.requires.node) apart c.gives.ensures
