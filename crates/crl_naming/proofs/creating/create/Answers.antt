use Rattle.std.proofs.Common.{arith}
use Rattle.crl_desk.specs.Desks.{state}
use Rattle.crl_naming.proofs.Limits.{create_fits}
use Rattle.crl_naming.proofs.creating.create.Goals as goal

pub create-name-requires-clause-serial : goal.create-name-requires-clause-serial
create-name-requires-clause-serial c = create_fits (state c.args.desk.now) c.args.size c.requires.verdict (omega arith)
