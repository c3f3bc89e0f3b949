use Rattle.crl_home.proofs.Regions.{take_keeps}
use Rattle.crl_home.proofs.steps.take_at.Goals as goal

pub returns-clause-keeps : goal.returns-clause-keeps
returns-clause-keeps c = take_keeps c.args.place c.args.nodes c.args.regions.now.items c.requires.there c.requires.copies
