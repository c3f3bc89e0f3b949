use Rattle.crl_home.proofs.Regions.{put_keeps}
use Rattle.crl_home.proofs.steps.put_at.Goals as goal

pub returns-clause-keeps : goal.returns-clause-keeps
returns-clause-keeps c = put_keeps c.args.place c.args.nodes c.args.home c.args.regions.now.items c.requires.place c.requires.gone c.requires.copies.0 c.requires.copies.1
