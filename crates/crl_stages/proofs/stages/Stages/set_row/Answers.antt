use Rattle.crl_stages.proofs.Places.{written}
use Rattle.crl_stages.proofs.stages.Stages.set_row.Goals as goal

pub returns-clause-lifetimes : goal.returns-clause-lifetimes
returns-clause-lifetimes c =
    let there = rw (← c.self.view_is) at c.requires.there in
    rw (← c.self.view_is) (written c.self.inside.rows.items c.args.serial c.args.row there.0 there.1)
