use Rattle.std.proofs.Common.{sym}
use Rattle.crl_stages.specs.StagesState.{lifetimes_of}
use Rattle.crl_stages.proofs.Places.{unknown_asked}
use Rattle.crl_stages.proofs.stages.Stages.add_asker.Goals as goal

pub returns-in_default-clause-lifetimes : goal.returns-in_default-clause-lifetimes
returns-in_default-clause-lifetimes c = unknown_asked (lifetimes_of c.args.self.now) c.args.serial c.args.from (sym c.in_default.ensures.lifetime)
