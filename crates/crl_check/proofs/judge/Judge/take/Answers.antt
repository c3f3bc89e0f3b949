use Rattle.crl_machine.specs.Seen.{state}
use Rattle.crl_check.proofs.Prefixes.{found_legal, found_still}
use Rattle.crl_check.proofs.judge.Judge.take.Goals as goal

pub returns-then-self : goal.returns-then-self
returns-then-self c = λ s given h.
    found_still s given c.args.self.now.broken c.args.self.now.legal (state c.args.self.now.machine) c.args.entry.now c.if-self.true h

pub returns-in-Ok : goal.returns-in-Ok
returns-in-Ok c = λ s given h.
    found_legal s given c.args.self.now.broken c.args.self.now.legal (state c.args.self.now.machine) (state c.judge.new.self) c.args.entry.now c.if-self.false h c.in-Ok.ensures.legal c.in-Ok.ensures.taken
