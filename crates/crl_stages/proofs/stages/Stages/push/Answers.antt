use Rattle.crl_stages.proofs.Places.{pushed}
use Rattle.crl_stages.proofs.stages.Stages.push.Goals as goal

pub returns-clause-lifetimes : goal.returns-clause-lifetimes
returns-clause-lifetimes c = rw (← c.self.view_is, c.push_reserved.ensures.items) (pushed c.self.inside.rows.items c.args.row)
