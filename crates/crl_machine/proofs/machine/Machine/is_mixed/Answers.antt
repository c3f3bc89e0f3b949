use Rattle.crl_machine.specs.Seen.{state}
use Rattle.crl_machine.specs.SingleMachine.{parts_of}
use Rattle.crl_machine.proofs.Rounds.{mixed_by, some_parts}
use Rattle.crl_machine.proofs.machine.Machine.is_mixed.Goals as goal

pub returns : goal.returns
unfolding state
returns c = mixed_by (parts_of (state c.args.self.now) c.args.round) c.gives.result (some_parts (state c.args.self.now) c.args.round c.args.node c.requires.node) c.gives.ensures
